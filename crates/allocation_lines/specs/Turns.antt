-- The lines of a file, taken in turn. Assumes nothing.
use Rattle.std.specs.Prelude.{ℕ, ◌+◌, cond, List, [], ◌∷◌, Result, Ok, Err}
use Rattle.allocation_row.specs.Rows.{row_of, follows}
use Rattle.allocation_row.specs.declared.Row.{Row}
use Rattle.allocation_row.specs.declared.FileCause.{FileCause}
use Rattle.allocation_row.specs.declared.FileCause.TheVariants.{Turn, NoLine}

-- what a file says: the cause of its refusal; or the hour, the zone's number and a row for each line
pub data File : Type 0 where
  refused : FileCause → File
  read : ℕ → ℕ → List Row → File

-- one row more at the front
abbrev pub with_row : Row → File → File
with_row r (refused c) = refused c
with_row r (read h z rs) = read h z (r ∷ rs)

-- one line in its turn: 14 or 15 by itself, then 16, then the lines after it
abbrev pub turn : Result Row FileCause → ℕ → ℕ → ℕ → (ℕ → File) → File
turn (Err c) h z k on = refused c
turn (Ok r) h z k on = cond (follows h z k r) (with_row r (on (k + 1))) (refused Turn)

-- "the lines are taken in turn", from place k on
abbrev pub in_turn : ℕ → ℕ → List (List ℕ) → ℕ → File
in_turn h z [] k = read h z []
in_turn h z (l ∷ ls) k = turn (row_of l) h z k (in_turn h z ls)

-- the first line gives h and z, and is then taken in its turn
abbrev pub under_first : Result Row FileCause → List (List ℕ) → File
under_first (Err c) ls = refused c
under_first (Ok r) ls = in_turn r.hour r.zone ls 0

-- all lines: "At least one further line follows"
abbrev pub body_of : List (List ℕ) → File
body_of [] = refused NoLine
body_of (l ∷ ls) = under_first (row_of l) (l ∷ ls)

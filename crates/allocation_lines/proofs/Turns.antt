-- The lines in turn, at a position of the file: what the line there makes of the lines from it on. Assumes nothing.
use mathlib.Core.Path.{◌≡◌, ◌∙◌}
use mathlib.Core.Bool.{true, false}
use mathlib.Core.List.{List, []}
use Prim.Native.Nat.{ℕ, ◌+◌, ◌≤◌, ◌<◌}
use lib.ListN.{length, drop}
use Rattle.std.specs.Prelude.{Ok, Err}
use Rattle.csv_lines.specs.Lines.{lines}
use Rattle.csv_lines.specs.Steps.{line_at}
use Rattle.csv_lines.proofs.Lines.{lines_at, lines_end}
use Rattle.allocation_row.specs.Rows.{row_of, follows}
use Rattle.allocation_row.specs.declared.Row.{Row}
use Rattle.allocation_row.specs.declared.FileCause.{FileCause}
use Rattle.allocation_row.specs.declared.FileCause.TheVariants.{Turn, NoLine}
use Rattle.allocation_lines.specs.Turns.{refused, read, with_row, turn, in_turn, under_first, body_of}

-- ---- no line is left
module _ (s : List ℕ) (at : ℕ) (p : length s ≤ at) where
  -- the lines before are all
  pub turns_end : (h z k : ℕ) → in_turn h z (lines (drop at s)) k ≡ read h z []
  turns_end h z k = rw (lines_end s at p)

  -- there was none
  pub body_none : body_of (lines (drop at s)) ≡ refused NoLine
  body_none = rw (lines_end s at p)

-- ---- the line l begins at the position
module _ (s : List ℕ) (at : ℕ) (p : at < length s) (l : List ℕ) (e : l ≡ line_at at s) where
  -- it is taken in its turn
  turn_here : (h z k : ℕ) → in_turn h z (lines (drop at s)) k ≡ turn (row_of l) h z k (in_turn h z (lines (drop (at + length l + 2) s)))
  turn_here h z k = rw (lines_at s at p, e)

  module _ (h z k : ℕ) where
    -- it is refused by itself
    pub turn_faulty : (c : FileCause) → row_of l ≡ Err c → in_turn h z (lines (drop at s)) k ≡ refused c
    turn_faulty c w = turn_here h z k ∙ rw w

    -- it is refused in its turn
    pub turn_other : (r : Row) → row_of l ≡ Ok r → follows h z k r ≡ false → in_turn h z (lines (drop at s)) k ≡ refused Turn
    turn_other r w f = turn_here h z k ∙ rw (w, f)

    -- it is read
    pub turn-row : (r : Row) → row_of l ≡ Ok r → follows h z k r ≡ true
        → in_turn h z (lines (drop at s)) k ≡ with_row r (in_turn h z (lines (drop (at + length l + 2) s)) (k + 1))
    turn-row r w f = turn_here h z k ∙ rw (w, f)

  -- the same for the first line
  body_here : body_of (lines (drop at s)) ≡ under_first (row_of l) (lines (drop at s))
  body_here = rw (lines_at s at p, e)

  -- it is refused by itself
  pub body_faulty : (c : FileCause) → row_of l ≡ Err c → body_of (lines (drop at s)) ≡ refused c
  body_faulty c w = body_here ∙ rw w

  -- it gives the hour and the zone
  pub body_row : (r : Row) → row_of l ≡ Ok r → body_of (lines (drop at s)) ≡ in_turn r.hour r.zone (lines (drop at s)) 0
  body_row r w = body_here ∙ rw w

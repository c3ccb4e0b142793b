-- What the contracts of the functions that read lines are written with. Nobody needs this to believe the call's contract. Assumes nothing.
use Rattle.std.specs.Prelude.{ℕ, ◌+◌, ◌≡◌, List, ◌++◌, map, ℤ, length, take, drop, Result, Ok, Err}
use Rattle.allocation_row.specs.Steps.{Same}
use Rattle.allocation_row.specs.declared.Lists.{Lists}
use Rattle.allocation_row.specs.declared.Row.{Row}
use Rattle.allocation_row.specs.declared.FileCause.{FileCause}
use Rattle.allocation_lines.specs.Turns.{File, refused, read}
use Rattle.allocation_lines.specs.declared.LinesRead.{LinesRead}

-- ---- the lists lent

-- four lists of 128 places
pub record Lent (l : Lists) : Type 0 where
  pub entries : length l.entries.now ≡ 128
  pub exits : length l.exits.now ≡ 128
  pub titles : length l.titles.now ≡ 128
  pub poolings : length l.poolings.now ≡ 128

-- ---- the lines from place k on, with k lines before them: the answer, and what a list lent holds
abbrev pub answer_from : ℕ → File → Result LinesRead FileCause
answer_from k (refused c) = Err c
answer_from k (read h z rs) = Ok (record { hour = h; zone = z; lines = k + length rs })

abbrev pub list_from : (Row → ℤ) → ℕ → File → List ℤ → List ℤ
list_from f k (refused c) xs = xs
list_from f k (read h z rs) xs = take k xs ++ (map f rs ++ drop (k + length rs) xs)

pub record After (k : ℕ) (f : File) (l : Lists) (r : Result LinesRead FileCause) (l' : Lists) : Type 0 where
  pub answer : r ≡ answer_from k f
  pub same : Same l l'
  pub entries : l'.entries.now ≡ list_from (λ w. w.entry) k f l.entries.now
  pub exits : l'.exits.now ≡ list_from (λ w. w.exit) k f l.exits.now
  pub titles : l'.titles.now ≡ list_from (λ w. w.title) k f l.titles.now
  pub poolings : l'.poolings.now ≡ list_from (λ w. w.pooling) k f l.poolings.now

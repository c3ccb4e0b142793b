-- What the lists' lengths and the header make of the file. Assumes nothing.
use mathlib.Core.Path.{◌≡◌}
use mathlib.Core.Bool.{true, false}
use mathlib.Core.List.{List}
use Prim.Native.Nat.{ℕ}
use lib.IntN.{ℤ}
use lib.ListN.{length, drop}
use Rattle.csv_lines.specs.Lines.{begins, lines}
use Rattle.allocation_row.specs.declared.FileCause.TheVariants.{Lists, Header}
use Rattle.allocation_lines.specs.Turns.{refused, body_of}
use Rattle.allocation_file.specs.File.{header, file_of, all128, outcome}

module _ (s : List ℕ) (a b c d : List ℤ) where
  -- a list of another length
  pub wrong_length : all128 (length a) (length b) (length c) (length d) ≡ false → outcome s a b c d ≡ refused Lists
  wrong_length e = rw e

  module _ (e : all128 (length a) (length b) (length c) (length d) ≡ true) where
    -- another header
    pub other_header : begins s header ≡ false → outcome s a b c d ≡ refused Header
    unfolding file_of
    other_header f = rw (e, f)

    -- the right header
    pub right_header : begins s header ≡ true → outcome s a b c d ≡ body_of (lines (drop 25 s))
    unfolding file_of
    right_header f = rw (e, f)

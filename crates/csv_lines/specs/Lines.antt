-- What bytes begin with, bytes into lines, and a line into fields. Assumes nothing.
use Rattle.std.specs.Prelude.{ℕ, Bool, true, false, ◌&&◌, List, [], ◌∷◌, eqb, get_or}
use Rattle.text.specs.Bytes.{comma, carriage_return, line_feed}

-- s begins with the bytes of the second list
abbrev pub begins : List ℕ → List ℕ → Bool
begins s [] = true
begins [] (x ∷ xs) = false
begins (y ∷ ys) (x ∷ xs) = eqb y x && begins ys xs

-- ---- lines

-- a CR LF pair
abbrev pub is_pair : ℕ → ℕ → Bool
is_pair x y = eqb x carriage_return && eqb y line_feed

-- one byte more at the front of the first part
abbrev pub on_first : ℕ → List (List ℕ) → List (List ℕ)
on_first x [] = (x ∷ []) ∷ []
on_first x (l ∷ ls) = (x ∷ l) ∷ ls

-- at a byte x: where a pair begins, the line ends and the lines after the pair follow; elsewhere x is in the line that goes on
abbrev pub at_byte : Bool → ℕ → List (List ℕ) → List (List ℕ) → List (List ℕ)
at_byte true x after on = [] ∷ after
at_byte false x after on = on_first x on

-- "A line runs to the next CR LF pair or to the end of the file. No line begins at the end of the file." (Each `let` is computed
-- only where it is used.)
abbrev pub lines : List ℕ → List (List ℕ)
lines [] = []
lines (x ∷ []) = (x ∷ []) ∷ []
lines (x ∷ y ∷ ys) = let after = lines ys in let on = lines (y ∷ ys) in at_byte (is_pair x y) x after on

-- ---- fields

-- at a byte x of a line: a comma ends the field, and any other byte is in it
abbrev pub at_comma : Bool → ℕ → List (List ℕ) → List (List ℕ)
at_comma true x fs = [] ∷ fs
at_comma false x fs = on_first x fs

-- the fields of a line, which commas part: one more than there are commas, so an empty line has one, which is empty
abbrev pub fields : List ℕ → List (List ℕ)
fields [] = [] ∷ []
fields (x ∷ xs) = at_comma (eqb x comma) x (fields xs)

-- field k of a line, counted from 0
abbrev pub field_at : ℕ → List ℕ → List ℕ
field_at k l = get_or (fields l) k []

-- Where a line or a field begins and ends. Assumes nothing.
use Rattle.std.specs.Prelude.{ℕ, suc, ◌≤◌, ◌≡◌, Bool, true, false, List, [], ◌∷◌, eqb, length, take, drop}
use Rattle.text.specs.Bytes.{comma}
use Rattle.csv_lines.specs.Lines.{is_pair, fields}

-- one byte more, unless the part ends here
abbrev pub unless_end : Bool → ℕ → ℕ
unless_end true n = 0
unless_end false n = suc n

-- how many bytes stand before the next CR LF pair, or before the end
abbrev pub line_len : List ℕ → ℕ
line_len [] = 0
line_len (x ∷ []) = 1
line_len (x ∷ y ∷ ys) = unless_end (is_pair x y) (line_len (y ∷ ys))

-- the line that begins at a position
abbrev pub line_at : ℕ → List ℕ → List ℕ
line_at at s = take (line_len (drop at s)) (drop at s)

-- how many bytes stand before the next comma, or before the end
abbrev pub field_len : List ℕ → ℕ
field_len [] = 0
field_len (x ∷ xs) = unless_end (eqb x comma) (field_len xs)

-- field k of a line begins at a position: the fields from there on are those from k on
pub record FieldStart (line : List ℕ) (k at : ℕ) : Type 0 where
  pub within : at ≤ length line
  pub begins : fields (drop at line) ≡ drop k (fields line)

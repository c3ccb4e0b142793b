-- A line parted into fields and joined is the line again; fields without commas, joined and parted, are the fields again. Assumes nothing.
use mathlib.Core.Path.{◌≡◌, refl, ◌∙◌}
use mathlib.Core.Bool.{Bool, true, false}
use mathlib.Core.List.{List, [], ◌∷◌, ◌++◌, append-nil}
use Prim.Native.Nat.{ℕ}
use native.Mathlib.Omega.{arith}
use lib.Dec.{eqb}
use borrow.Author.Tests.{eqb-true, ne_eqb}
use Rattle.text.specs.Bytes.{comma, quote_mark}
use Rattle.csv_lines.specs.Lines.{on_first, at_comma, fields}
use Rattle.allocation_text.specs.Text.{joined}
use Rattle.writer_guarantees.proofs.Lists.{All, Above, above-less, all_append}

-- ---- parted and joined

-- a byte more in the first field is a byte more in the line
joined_first : (x : ℕ) (fs : List (List ℕ)) → joined (on_first x fs) ≡ x ∷ joined fs
joined_first x [] = refl
joined_first x (f ∷ []) = refl
joined_first x (f ∷ g ∷ fs) = refl

-- a field of no bytes before those of a line is a comma before the line
joined-comma : (l : List ℕ) → joined ([] ∷ fields l) ≡ comma ∷ joined (fields l)
joined-comma [] = refl
joined-comma (x ∷ l) = go (eqb x comma) (fields l)
  where
    go : (b : Bool) (fs : List (List ℕ)) → joined ([] ∷ at_comma b x fs) ≡ comma ∷ joined (at_comma b x fs)
    go true fs = refl
    go false [] = refl
    go false (f ∷ fs) = refl

-- the line again
pub joined-fields : (l : List ℕ) → joined (fields l) ≡ l
joined-fields [] = refl
joined-fields (x ∷ l) = go (eqb x comma) refl (joined-fields l)
  where
    go : (b : Bool) → eqb x comma ≡ b → joined (fields l) ≡ l → joined (at_comma b x (fields l)) ≡ x ∷ l
    go true e rest = rw (eqb-true x comma e) (joined-comma l ∙ rw rest)
    go false e rest = joined_first x (fields l) ∙ rw rest

-- ---- joined and parted

-- a field before the line's end or a comma
field-before : (f l : List ℕ) (fs : List (List ℕ)) → Above comma f → fields l ≡ [] ∷ fs → fields (f ++ l) ≡ f ∷ fs
field-before [] l fs a e = e
field-before (x ∷ f) l fs a e =
    let other : x ≡ comma → ⊥ = λ e. omega (arith, a.0) in
    rw (ne_eqb x comma other, field-before f l fs a.1 e)

-- the fields again, of which there is at least one
pub fields-joined : (f : List ℕ) (fs : List (List ℕ)) → All (Above comma) (f ∷ fs) → fields (joined (f ∷ fs)) ≡ f ∷ fs
fields-joined f [] a = rw append-nil at (field-before f [] [] a.0 refl)
fields-joined f (g ∷ fs) a = field-before f (comma ∷ joined (g ∷ fs)) (g ∷ fs) a.0 (rw (fields-joined g fs a.1))

-- ---- the line's bytes

-- the comma is above the quote mark
above_quote : (f : List ℕ) → Above comma f → Above quote_mark f
above_quote = above-less quote_mark comma (omega arith)

-- and so is every byte of the line
pub joined-above : (fs : List (List ℕ)) → All (Above comma) fs → Above quote_mark (joined fs)
joined-above [] a = tt
joined-above (f ∷ []) a = above_quote f a.0
joined-above (f ∷ g ∷ fs) a = all_append _ f _ (above_quote f a.0) (omega arith, joined-above (g ∷ fs) a.1)

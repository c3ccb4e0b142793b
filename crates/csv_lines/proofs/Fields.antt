-- How a line's fields go on by a byte, and by a field. Assumes nothing.
use mathlib.Core.Path.{◌≡◌, refl, sym, ap, ◌∙◌}
use mathlib.Core.Bool.{Bool, true, false}
use mathlib.Core.List.{List, [], ◌∷◌}
use Prim.Native.Nat.{ℕ, suc, ◌+◌, ◌≤◌, ◌<◌}
use native.Mathlib.Nat.{add-zero}
use native.Mathlib.Numerals.{add-one}
use native.Mathlib.Omega.{arith}
use lib.Dec.{eqb}
use lib.ListN.{length, get_or, take, drop, length-drop}
use lib.Seq.{drop-cons, drop-drop, get_or-drop}
use borrow.Author.Tests.{eq-eqb, ne_eqb}
use Rattle.text.specs.Bytes.{comma}
use Rattle.csv_lines.specs.Lines.{on_first, at_comma, fields, field_at}
use Rattle.csv_lines.specs.Steps.{unless_end, field_len, FieldStart}
use Rattle.csv_lines.proofs.Lines.{end_within, part_within}

-- ---- the first field
-- a byte more in the first field
head_first : (x : ℕ) (fs : List (List ℕ)) → get_or (on_first x fs) 0 [] ≡ x ∷ get_or fs 0 []
head_first x [] = refl
head_first x (f ∷ fs) = refl

-- and the fields after it are the same
tail_first : (x : ℕ) (fs : List (List ℕ)) → drop 1 (on_first x fs) ≡ drop 1 fs
tail_first x [] = refl
tail_first x (f ∷ fs) = refl

-- and as many
length_first : (x : ℕ) (fs : List (List ℕ)) → 0 < length fs → length (on_first x fs) ≡ length fs
length_first x [] h = absurd (omega arith)
length_first x (f ∷ fs) h = refl

-- a line has a field
some_field : (l : List ℕ) → 0 < length (fields l)
some_field [] = omega arith
some_field (x ∷ xs) = go (eqb x comma) (fields xs)
  where
    go : (b : Bool) (fs : List (List ℕ)) → 0 < length (at_comma b x fs)
    go true fs = omega arith
    go false [] = omega arith
    go false (f ∷ fs) = omega arith

-- the first field is what stands before the first comma
first_field : (l : List ℕ) → get_or (fields l) 0 [] ≡ take (field_len l) l
first_field [] = refl
first_field (x ∷ xs) = go (eqb x comma) (first_field xs)
  where
    go : (b : Bool) → get_or (fields xs) 0 [] ≡ take (field_len xs) xs
        → get_or (at_comma b x (fields xs)) 0 [] ≡ take (unless_end b (field_len xs)) (x ∷ xs)
    go true e = refl
    go false e = head_first x (fields xs) ∙ ap (λ (l : List ℕ). x ∷ l) e

-- it is within the line
field_len_lem : (l : List ℕ) → field_len l ≤ length l
field_len_lem [] = omega arith
field_len_lem (x ∷ xs) = end_within (eqb x comma) (field_len xs) (length xs) (field_len_lem xs)

-- the same for the field that begins at a position
pub field_within : (l : List ℕ) (at : ℕ) → at ≤ length l → at + field_len (drop at l) ≤ length l
field_within = part_within field_len field_len_lem

-- ---- one byte further
module _ (l : List ℕ) (i : ℕ) (h : i < length l) where
  -- the field ends here
  pub comma_here : get_or l i 0 ≡ comma → field_len (drop i l) ≡ 0
  comma_here e = rw (drop-cons l i 0, eq-eqb _ _ e)

  -- the field goes on
  pub comma-later : (get_or l i 0 ≡ comma → ⊥) → field_len (drop i l) ≡ suc (field_len (drop (i + 1) l))
  comma-later e = rw (add-one, drop-cons l i 0, ne_eqb _ _ e)

  -- a field more
  pub count-comma : get_or l i 0 ≡ comma → length (fields (drop i l)) ≡ suc (length (fields (drop (i + 1) l)))
  count-comma e = rw (add-one, drop-cons l i 0, eq-eqb _ _ e)

  -- the same field
  pub count_other : (get_or l i 0 ≡ comma → ⊥) → length (fields (drop i l)) ≡ length (fields (drop (i + 1) l))
  count_other e =
      let xs = drop (suc i) l in
      rw (add-one, drop-cons l i 0, ne_eqb _ _ e) (length_first (get_or l i 0) (fields xs) (some_field xs))

-- ---- one field further
record Rest (l : List ℕ) : Type 0 where
  pub within : field_len l < length l
  pub are : drop 1 (fields l) ≡ fields (drop (suc (field_len l)) l)

-- the fields after the first
rest : (l : List ℕ) → 1 < length (fields l) → Rest l
rest [] h = absurd (omega arith)
rest (x ∷ xs) h = let r = go (eqb x comma) (rest xs) h in record { within = r.0; are = r.1 }
  where
    go : (b : Bool) → (1 < length (fields xs) → Rest xs) → 1 < length (at_comma b x (fields xs))
        → (unless_end b (field_len xs) < suc (length xs))
        × (drop 1 (at_comma b x (fields xs)) ≡ fields (drop (suc (unless_end b (field_len xs))) (x ∷ xs)))
    go true ih h = (omega arith, refl)
    go false ih h =
        let i = ih (rw (length_first x (fields xs) (some_field xs)) at h) in
        (omega (arith, i.within), tail_first x (fields xs) ∙ i.are)

-- field 0 begins at 0
pub start_none : (l : List ℕ) → FieldStart l 0 0
start_none l = record { within = omega arith; begins = refl }

-- from the start of field j to that of the next
pub start-next : (l : List ℕ) (at j : ℕ) → FieldStart l j at → j + 1 < length (fields l)
    → FieldStart l (j + 1) (at + field_len (drop at l) + 1)
start-next l at j s m =
    let n = field_len (drop at l) in
    let more : 1 < length (fields (drop at l)) = rw s.begins (omega (arith, length-drop j (fields l))) in
    let r = rest (drop at l) more in
    let e : at + n + 1 ≡ at + suc n = omega arith in
    record {
      within = omega (arith, r.within, length-drop at l);
      begins = rw (e, ← drop-drop (suc n) at l, ← r.are, s.begins) (drop-drop 1 j (fields l));
    }

-- the field that begins there
pub field_is : (l : List ℕ) (at k : ℕ) → FieldStart l k at → take (field_len (drop at l)) (drop at l) ≡ field_at k l
field_is l at k s =
    let e = get_or-drop k (fields l) 0 [] ∙ ap (λ (n : ℕ). get_or (fields l) n []) (add-zero k) in
    sym (first_field (drop at l)) ∙ rw s.begins e

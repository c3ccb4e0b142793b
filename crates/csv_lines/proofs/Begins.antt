-- The test of the first bytes, byte by byte, what it says of them, and that the library's test is the same. Assumes nothing.
use mathlib.Core.Path.{◌≡◌, refl, sym}
use mathlib.Core.Bool.{Bool, true, false, false≢true}
use mathlib.Core.List.{List, [], ◌∷◌}
use Prim.Native.Nat.{ℕ, ◌+◌, ◌<◌}
use native.Mathlib.Numerals.{add-one}
use native.Mathlib.Omega.{arith}
use lib.Dec.{eqb}
use lib.ListN.{length, get_or, take, drop}
use lib.Seq.{drop-cons}
use borrow.Author.Tests.{eq-eqb, ne_eqb, eqb-true}
use Rattle.std.specs.Bool.{one_answer}
use Rattle.std.specs.List.{starts_with}
use Rattle.std.proofs.lemmas.Bool.Decides.{Decides-eqb}
use Rattle.std.proofs.lemmas.Slice.Eq.{slice_eq-Decides}
use Rattle.integers.proofs.Tests.{and_true}
use Rattle.csv_lines.specs.Lines.{begins}

-- ---- one byte further
module _ (s head : List ℕ) (i : ℕ) (g : i < length head) (f : i < length s) where
  -- the bytes differ
  pub begins_not : (get_or s i 0 ≡ get_or head i 0 → ⊥) → begins (drop i s) (drop i head) ≡ false
  begins_not e = rw (drop-cons s i 0, drop-cons head i 0, ne_eqb _ _ e)

  -- the bytes are the same
  pub begins_on : get_or s i 0 ≡ get_or head i 0 → begins (drop i s) (drop i head) ≡ begins (drop (i + 1) s) (drop (i + 1) head)
  begins_on e = rw (add-one, drop-cons s i 0, drop-cons head i 0, eq-eqb _ _ e)

-- ---- what the first bytes are then
-- those of the head
pub begins-take : (s head : List ℕ) → begins s head ≡ true → take (length head) s ≡ head
begins-take s [] e = refl
begins-take [] (x ∷ xs) e = absurd (false≢true e)
begins-take (y ∷ ys) (x ∷ xs) e =
    let p = and_true (eqb y x) (begins ys xs) e in
    let q : y ≡ x = eqb-true y x p.0 in
    let r = begins-take ys xs p.1 in
    rw (q, r)

-- and the converse
pub take_begins : (s head : List ℕ) → take (length head) s ≡ head → begins s head ≡ true
take_begins s [] e = refl
take_begins [] (x ∷ xs) e = let z : ◌≡◌ {A = ℕ} 0 1 = cc in absurd (omega arith)
take_begins (y ∷ ys) (x ∷ xs) e =
    let q : y ≡ x = cc in
    let r : take (length xs) ys ≡ xs = cc in
    rw (eq-eqb y x q, take_begins ys xs r)

-- ---- the library's test of a slice
pub starts_begins : (s head : List ℕ) (r : Bool) → r ≡ starts_with eqb s head → r ≡ begins s head
starts_begins s head r e =
    one_answer r (begins s head)
    (slice_eq-Decides Decides-eqb head (take (length head) s) r e)
    (λ b. sym (begins-take s head b), λ t. take_begins s head (sym t))

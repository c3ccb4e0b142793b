-- Tests of signed numbers and of their ranges. Assumes nothing.
use mathlib.Core.Path.{◌≡◌, refl, sym, ap, ◌∙◌, subst}
use mathlib.Core.Bool.{Bool, true, false, ◌&&◌}
use Prim.Native.Nat.{ℕ, suc, ◌≤◌}
use native.Mathlib.Omega.{arith}
use borrow.Author.Tests.{eqb-true}
use lib.Dec.{T}
use lib.IntN.{ℤ, pos, negsuc, nat_abs}
use lib.Signed.{lt_z, le_z, ◌≤ℤ◌, ◌<ℤ◌, non_neg}
use Rattle.integers.specs.Ranges.{in_range, equal, is_zero, natural}
use Rattle.integers.proofs.Linear.{lin1, lin2, lin3, diffs, linear, not_both}

-- both tests hold
pub and_true : (a b : Bool) → (a && b) ≡ true → (a ≡ true) × (b ≡ true)
and_true true b e = (refl, e)
and_true false b e = not_both (sym e)

pub both_true : {a b : Bool} → a ≡ true → b ≡ true → (a && b) ≡ true
both_true p q = simp (p, q)

-- the order and its test
pub le_of_test : {x y : ℤ} → le_z x y ≡ true → x ≤ℤ y
le_of_test e = record { le = subst T (sym e) tt }

pub lt_of_test : {x y : ℤ} → lt_z x y ≡ true → x <ℤ y
lt_of_test e = record { lt = subst T (sym e) tt }

pub test_of_le : {x y : ℤ} → x ≤ℤ y → le_z x y ≡ true
test_of_le {x} {y} h = go (le_z x y) h.le
  where
    go : (b : Bool) → T b → b ≡ true
    go true t = refl
    go false t = absurd t

-- two numbers that are equal by the test, and that are not
pub equal_true : (x y : ℤ) → equal x y ≡ true → x ≡ y
equal_true x y e = let k = and_true (le_z x y) (le_z y x) e in antisym x y k.0 k.1
  where
    antisym : (x y : ℤ) → le_z x y ≡ true → le_z y x ≡ true → x ≡ y
    antisym = lin2 _ (λ a b c d. omega linear)

pub le_self : (x : ℤ) → le_z x x ≡ true
le_self = lin1 _ (λ a b. omega linear)

pub equal-self : (x : ℤ) → equal x x ≡ true
equal-self x = both_true (le_self x) (le_self x)

pub equal_false : (x y : ℤ) → equal x y ≡ false → x ≡ y → ⊥
equal_false x y e q = not_both (sym (equal-self x) ∙ subst (λ (z : ℤ). equal x z ≡ false) (sym q) e)

pub is_zero_true : (x : ℤ) → is_zero x ≡ true → x ≡ pos 0
is_zero_true (pos n) e = ap pos (eqb-true n 0 e)
is_zero_true (negsuc n) e = absurd (omega (arith, eqb-true (suc n) 0 e))

pub not_negative : (x : ℤ) → lt_z x (pos 0) ≡ false → T (non_neg x)
not_negative (pos n) e = tt
not_negative (negsuc n) e = not_both e

-- a count as a natural number
pub natural-size : (x : ℤ) → lt_z x (pos 0) ≡ false → natural x ≡ nat_abs x
unfolding natural
natural-size (pos n) e = refl
natural-size (negsuc n) e = not_both e

-- what is in a range is no larger than its ends
pub range_size : (n : ℕ) (lo hi x : ℤ) → nat_abs lo ≤ n → nat_abs hi ≤ n → in_range lo hi x ≡ true → nat_abs x ≤ n
range_size n lo hi x l h e =
    let k = and_true (le_z lo x) (le_z x hi) e in
    between lo hi x l h k.0 k.1
  where
    between : (lo hi x : ℤ) → nat_abs lo ≤ n → nat_abs hi ≤ n → le_z lo x ≡ true → le_z x hi ≡ true → nat_abs x ≤ n
    between = lin3 _ (λ a b c d e f. simp diffs (omega linear))

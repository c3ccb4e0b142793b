-- Sizes: bounds of sums, differences, negations and products. Assumes nothing.
use mathlib.Core.Path.{◌≡◌, refl, ap}
use Prim.Native.Nat.{ℕ, suc, ◌+◌, ◌*◌, ◌≤◌}
use native.Mathlib.Nat.{mul-le-mul}
use lib.IntN.{ℤ, pos, negsuc, nat_abs, neg_ℤ, ◌+ℤ◌, ◌-ℤ◌, ◌*ℤ◌}
use Rattle.integers.proofs.Linear.{lin1, lin2, diffs, linear}

pub size-neg : (x : ℤ) → nat_abs (neg_ℤ x) ≡ nat_abs x
size-neg = lin1 _ (λ a b. simp diffs (omega linear))

pub size-add : (x y : ℤ) → nat_abs (x +ℤ y) ≤ nat_abs x + nat_abs y
size-add = lin2 _ (λ a b c d. simp diffs (omega linear))

pub size-sub : (x y : ℤ) → nat_abs (x -ℤ y) ≤ nat_abs x + nat_abs y
size-sub = lin2 _ (λ a b c d. simp diffs (omega linear))

size-mul : (x y : ℤ) → nat_abs (x *ℤ y) ≡ nat_abs x * nat_abs y
size-mul (pos a) (pos b) = refl
size-mul (pos a) (negsuc b) = size-neg (pos (a * suc b))
size-mul (negsuc a) (pos b) = size-neg (pos (suc a * b))
size-mul (negsuc a) (negsuc b) = refl

pub size-mul-le : (x y : ℤ) (m n : ℕ) → nat_abs x ≤ m → nat_abs y ≤ n → nat_abs (x *ℤ y) ≤ m * n
size-mul-le x y m n p q = rw size-mul (mul-le-mul p q)

-- equal integers have one size: a rule for `omega`
pub size_eq : (x y : ℤ) → x ≡ y → nat_abs x ≡ nat_abs y
size_eq x y e = ap nat_abs e

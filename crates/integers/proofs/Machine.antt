-- Signed numbers in the machine. In a function's proof a signed local is its bits, and reading it shows as `to_z w64 (of_z w64 x)`: what is read back is x where x
-- fits, and is no larger in any case. Assumes nothing.
use mathlib.Core.Path.{◌≡◌, refl, sym, ap, ◌∙◌}
use mathlib.Core.Bool.{Bool, true, false}
use Prim.Native.Nat.{ℕ, suc, ◌+◌, ◌*◌, ◌-◌, ◌^◌, ◌≤◌, ◌<◌}
use native.Mathlib.Omega.{arith}
use native.Mathlib.Nat.{le_refl, le_trans, lt_of_le_of_lt}
use lib.Dec.{ltb, eqb}
use borrow.Author.Tests.{ltb-true, ltb-false, eq-eqb, ne_eqb}
use lib.IntN.{ℤ, pos, negsuc, nat_abs, ◌+ℤ◌, ◌-ℤ◌, ◌*ℤ◌}
use lib.Signed.{mag}
use mir.Syntax.{w64}
use mir.Val.{SFits, to_z, of_z, sel, hbits, bits}
use mir.ValLaws.{to_z-of_z}
use Rattle.integers.specs.Ranges.{equal, is_zero}
use Rattle.integers.proofs.Tests.{equal_true, equal_false}
use Rattle.integers.proofs.Sizes.{size-add, size-sub, size-mul-le, size_eq}

-- ---- what is read back

-- a value that fits
pub read : {z : ℤ} → SFits w64 z → to_z w64 (of_z w64 z) ≡ z
read {z} f = to_z-of_z w64 z f

-- the same from the bound alone, as a call's `.ok` and a place's `.given` have it
pub back : (z : ℤ) → mag z < 2 ^ 63 → to_z w64 (of_z w64 z) ≡ z
back z h = to_z-of_z w64 z (record { sfits = h })

sel_size : (b : Bool) (x y : ℤ) (m : ℕ) → (b ≡ true → nat_abs x ≤ m) → (b ≡ false → nat_abs y ≤ m) → nat_abs (sel b x y) ≤ m
sel_size true x y m f g = f refl
sel_size false x y m f g = g refl

-- any value, as to its size
pub read_size : (x : ℤ) → nat_abs (to_z w64 (of_z w64 x)) ≤ nat_abs x
read_size (pos n) =
    sel_size (ltb n (2 ^ hbits w64)) (pos n) (negsuc (2 ^ bits w64 - suc n)) n
    (λ e. le_refl n) (λ e. omega (arith, ltb-false n (2 ^ hbits w64) e))
read_size (negsuc n) =
    let m = 2 ^ bits w64 - suc n in
    sel_size (ltb m (2 ^ hbits w64)) (pos m) (negsuc (2 ^ bits w64 - suc m)) (suc n)
    (λ e. omega (arith, ltb-true m (2 ^ hbits w64) e)) (λ e. omega (arith, ltb-false m (2 ^ hbits w64) e))

-- a bound of what is read back, as a callee's `requires` asks it
pub read_le : (x : ℤ) (n : ℕ) → nat_abs x ≤ n → nat_abs (to_z w64 (of_z w64 x)) ≤ n
read_le x n h = le_trans (read_size x) h

-- no signed number of 64 bits is larger than the least of them
pub fits-size : {x : ℤ} → SFits w64 x → nat_abs x ≤ 2 ^ 63
fits-size {x} f = go x f.sfits
  where
    go : (x : ℤ) → mag x < 2 ^ 63 → nat_abs x ≤ 2 ^ 63
    go (pos n) h = omega arith
    go (negsuc n) h = omega arith

pub zero_bits : {x : ℤ} → SFits w64 x → eqb (of_z w64 x) 0 ≡ is_zero x
zero_bits {x} f = go x f.sfits
  where
    go : (x : ℤ) → mag x < 2 ^ 63 → eqb (of_z w64 x) 0 ≡ is_zero x
    go (pos n) h = refl
    go (negsuc n) h = ne_eqb (2 ^ bits w64 - suc n) 0 (λ e. omega arith) ∙ sym (ne_eqb (suc n) 0 (λ e. omega arith))

-- two numbers are equal where their bits are
pub equal_bits : {x y : ℤ} → SFits w64 x → SFits w64 y → eqb (of_z w64 x) (of_z w64 y) ≡ equal x y
equal_bits {x} {y} f g = go (equal x y) refl
  where
    go : (b : Bool) → equal x y ≡ b → eqb (of_z w64 x) (of_z w64 y) ≡ b
    go true e = eq-eqb (of_z w64 x) (of_z w64 y) (ap (of_z w64) (equal_true x y e))
    go false e = ne_eqb (of_z w64 x) (of_z w64 y) (λ q. equal_false x y e (sym (read f) ∙ ap (to_z w64) q ∙ read g))

-- ---- what fits, as rules of `omega` for a goal: `omega fitting` closes the need of one operation

pub fits : (z : ℤ) → nat_abs z < 2 ^ 63 → SFits w64 z
fits z h = record { sfits = lt_of_le_of_lt (mag-size z) h }
  where
    mag-size : (x : ℤ) → mag x ≤ nat_abs x
    mag-size (pos n) = le_refl n
    mag-size (negsuc n) = omega arith

pub fits-add : (x y : ℤ) → nat_abs x + nat_abs y < 2 ^ 63 → SFits w64 (x +ℤ y)
fits-add x y h = fits (x +ℤ y) (lt_of_le_of_lt (size-add x y) h)

pub fits_sub : (x y : ℤ) → nat_abs x + nat_abs y < 2 ^ 63 → SFits w64 (x -ℤ y)
fits_sub x y h = fits (x -ℤ y) (lt_of_le_of_lt (size-sub x y) h)

-- the same at operands that are read back: both, or one of them
pub fits-add_read : (x y : ℤ) → nat_abs x + nat_abs y < 2 ^ 63 → SFits w64 (to_z w64 (of_z w64 x) +ℤ to_z w64 (of_z w64 y))
fits-add_read x y h = omega (arith, fits-add, read_size x, read_size y)

pub fits-add_right : (x y : ℤ) → nat_abs x + nat_abs y < 2 ^ 63 → SFits w64 (x +ℤ to_z w64 (of_z w64 y))
fits-add_right x y h = omega (arith, fits-add, read_size y)

pub fits-add-left : (x y : ℤ) → nat_abs x + nat_abs y < 2 ^ 63 → SFits w64 (to_z w64 (of_z w64 x) +ℤ y)
fits-add-left x y h = omega (arith, fits-add, read_size x)

pub fits-sub_read : (x y : ℤ) → nat_abs x + nat_abs y < 2 ^ 63 → SFits w64 (to_z w64 (of_z w64 x) -ℤ to_z w64 (of_z w64 y))
fits-sub_read x y h = omega (arith, fits_sub, read_size x, read_size y)

pub fits-sub_right : (x y : ℤ) → nat_abs x + nat_abs y < 2 ^ 63 → SFits w64 (x -ℤ to_z w64 (of_z w64 y))
fits-sub_right x y h = omega (arith, fits_sub, read_size y)

pub fits-sub-left : (x y : ℤ) → nat_abs x + nat_abs y < 2 ^ 63 → SFits w64 (to_z w64 (of_z w64 x) -ℤ y)
fits-sub-left x y h = omega (arith, fits_sub, read_size x)

pub fits-mul_read : (x y : ℤ) → nat_abs x * nat_abs y < 2 ^ 63 → SFits w64 (to_z w64 (of_z w64 x) *ℤ to_z w64 (of_z w64 y))
fits-mul_read x y h =
    let u = to_z w64 (of_z w64 x) in
    let v = to_z w64 (of_z w64 y) in
    fits (u *ℤ v) (lt_of_le_of_lt (size-mul-le u v (nat_abs x) (nat_abs y) (read_size x) (read_size y)) h)

pub ruleset fitting = (
  arith,
  fits-mul_read,
  fits-add_read,
  fits-sub_read,
  fits-add_right,
  fits-sub_right,
  fits-add-left,
  fits-sub-left,
  fits-add,
  fits_sub,
  fits,
  size_eq,
)

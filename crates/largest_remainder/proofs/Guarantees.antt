-- The theorems of specs/Guarantees.antt. Assumes nothing.
use mathlib.Core.Path.{◌≡◌, refl, ap}
use mathlib.Core.Bool.{Bool, true, false}
use mathlib.Core.List.{List, map}
use Prim.Native.Nat.{ℕ, ◌+◌, ◌*◌, ◌≤◌, ◌<◌}
use native.Mathlib.Omega.{arith}
use native.Mathlib.Nat.{lt_of_mul-lt-mul_right, mul-le-mul_right}
use lib.Dec.{ltb}
use lib.ListN.{length, get_or, length-map, get_or-eq_default}
use borrow.Author.Tests.{ltb-true, ltb-false}
use Rattle.integers.specs.Lists.{bit, sum, tabulate}
use Rattle.integers.proofs.Counts.{tabulate_ext, sum-tabulate, tabulate-map}
use Rattle.largest_remainder.specs.Rule.{whole, fraction, spare, settled_at, settled}
use Rattle.largest_remainder.specs.Guarantees.{AddsUp, Accurate, NoMoreThanSize}
use Rattle.largest_remainder.proofs.Cuts.{before, first_adds}
use Rattle.largest_remainder.proofs.Parts.{fractions, parts, fraction-less, wholes_le, spare-le, gets, settled_at_lem, gets_some, settled-length, settled-get_or}

-- what is not in the whole units is spare
whole-spare : (sizes : List ℕ) (total : ℕ) → 0 < sum sizes → sum (map (whole sizes total) sizes) + spare sizes total ≡ total
unfolding spare
whole-spare sizes total some = omega (arith, wholes_le sizes total some)

pub adds_up : AddsUp
unfolding settled
adds_up sizes total some =
    let w : ℕ → ℕ = λ i. whole sizes total (get_or sizes i 0) in
    let g : ℕ → ℕ = λ i. bit (ltb (before (fractions sizes total) i) (spare sizes total)) in
    omega (
      arith,
      ap sum (tabulate_ext (settled_at sizes total) (λ i. w i + g i) (length sizes) (settled_at_lem sizes total some)),
      sum-tabulate w g (length sizes),
      ap sum (tabulate-map (whole sizes total) 0 sizes),
      ap (λ (n : ℕ). sum (tabulate g n)) (length-map sizes (fraction sizes total)),
      first_adds (fractions sizes total) (spare sizes total) (spare-le sizes total some),
      whole-spare sizes total some,
    )

pub accurate : Accurate
accurate sizes total some i h =
    rw (
      settled-get_or sizes total i h,
      settled_at_lem sizes total some i h,
    )
    (go (gets sizes total some i h) (gets_some sizes total some i h))
  where
    x : ℕ
    x = get_or sizes i 0

    go : (b : Bool) → bit b ≤ fraction sizes total x
        → ((whole sizes total x + bit b) * sum sizes < total * x + sum sizes) × (total * x < (whole sizes total x + bit b) * sum sizes + sum sizes)
    go true k = omega (arith, parts sizes total x, fraction-less sizes total some x)
    go false k = omega (arith, parts sizes total x, fraction-less sizes total some x)

-- less than 1 above the exact share, which is no more than the size where the total is no more than the sum
pub near_at_most : (S total settled size : ℕ) → total ≤ S → settled * S < total * size + S → settled ≤ size
near_at_most S total settled size le near =
    omega (arith, lt_of_mul-lt-mul_right S {m = settled} {n = size + 1} (omega (arith, near, mul-le-mul_right size le)))

pub no_more_than_size : NoMoreThanSize
no_more_than_size sizes total some le i = go (ltb i (length sizes)) refl
  where
    x : ℕ
    x = get_or sizes i 0

    y : ℕ
    y = get_or (settled sizes total) i 0

    go : (b : Bool) → ltb i (length sizes) ≡ b → y ≤ x
    go true e = near_at_most (sum sizes) total y x le (accurate sizes total some i (ltb-true i (length sizes) e)).0
    go false e =
        omega (arith, get_or-eq_default (settled sizes total) 0 {n = i} (omega (arith, settled-length sizes total, ltb-false i (length sizes) e)))

-- one settled size for each user
pub settled_long : (sizes : List ℕ) (total : ℕ) → length (settled sizes total) ≡ length sizes
settled_long = settled-length

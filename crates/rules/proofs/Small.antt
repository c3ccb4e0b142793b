-- What is in its range is small: the limits of document 01 as bounds of sizes, for sums and products that must not leave 64 bits. Assumes nothing.
use mathlib.Core.Path.{◌≡◌}
use mathlib.Core.Bool.{true, ◌&&◌}
use mathlib.Core.List.{List}
use Prim.Native.Nat.{ℕ, zero-le, ◌≤◌}
use native.Mathlib.Omega.{arith}
use native.Mathlib.Nat.{le_refl}
use lib.Dec.{lit≤}
use lib.IntN.{ℤ, pos, nat_abs, neg_ℤ}
use Rattle.integers.specs.Ranges.{in_range}
use Rattle.integers.specs.Lists.{every, AtMost}
use Rattle.integers.proofs.Passes.{every_at_most}
use Rattle.integers.proofs.Sizes.{size-neg}
use Rattle.integers.proofs.Tests.{and_true, range_size}
use Rattle.rules.specs.declared.HourTerms.{HourTerms}
use Rattle.rules.specs.Limits.{
  length_least,
  length_most,
  length_fit,
  entry_most,
  exit_most,
  title_most,
  pooling_most,
  position_most,
  total_most,
  threshold_most,
  price_most,
  entry_fit,
  exit_fit,
  title_fit,
  pooling_fit,
  position_fit,
  total_fit,
  upper_fit,
  lower_fit,
  price_fit,
}
use Rattle.rules.specs.Causes.{prices_fit, terms_fit}

-- ---- a range about zero, and one on either side of it
about : (n : ℕ) (x : ℤ) → in_range (neg_ℤ (pos n)) (pos n) x ≡ true → nat_abs x ≤ n
about n x e = range_size n (neg_ℤ (pos n)) (pos n) x (omega (arith, size-neg (pos n))) (le_refl n) e

above : (n : ℕ) (x : ℤ) → in_range (pos 0) (pos n) x ≡ true → nat_abs x ≤ n
above n x e = range_size n (pos 0) (pos n) x zero-le (le_refl n) e

below : (n : ℕ) (x : ℤ) → in_range (neg_ℤ (pos n)) (pos 0) x ≡ true → nat_abs x ≤ n
below n x e = range_size n (neg_ℤ (pos n)) (pos 0) x (omega (arith, size-neg (pos n))) zero-le e

-- ---- the length of a day
pub length_small : (hours : ℤ) → length_fit hours ≡ true → nat_abs hours ≤ length_most
unfolding length_fit
length_small hours e = range_size length_most (pos length_least) (pos length_most) hours (lit≤ tt) (le_refl length_most) e

-- ---- a zone's totals
pub total_small : (kwh : ℤ) → total_fit kwh ≡ true → nat_abs kwh ≤ total_most
unfolding total_fit
total_small = above total_most

-- ---- positions and amounts
pub position_small : (kwh : ℤ) → position_fit kwh ≡ true → nat_abs kwh ≤ position_most
unfolding position_fit
position_small = about position_most

pub positions_small : (xs : List ℤ) → every position_fit xs ≡ true → AtMost position_most xs
positions_small = every_at_most position_fit position_most position_small

pub entries_small : (xs : List ℤ) → every entry_fit xs ≡ true → AtMost entry_most xs
unfolding entry_fit
entries_small = every_at_most entry_fit entry_most (above entry_most)

pub exits_small : (xs : List ℤ) → every exit_fit xs ≡ true → AtMost exit_most xs
unfolding exit_fit
exits_small = every_at_most exit_fit exit_most (below exit_most)

pub titles_small : (xs : List ℤ) → every title_fit xs ≡ true → AtMost title_most xs
unfolding title_fit
titles_small = every_at_most title_fit title_most (about title_most)

pub poolings_small : (xs : List ℤ) → every pooling_fit xs ≡ true → AtMost pooling_most xs
unfolding pooling_fit
poolings_small = every_at_most pooling_fit pooling_most (about pooling_most)

-- ---- prices and thresholds
pub record Prices (e s : ℤ) : Type 0 where
  pub excess : nat_abs e ≤ price_most
  pub shortfall : nat_abs s ≤ price_most

price_small : (micros : ℤ) → price_fit micros ≡ true → nat_abs micros ≤ price_most
unfolding price_fit
price_small = about price_most

pub prices_small : (e s : ℤ) → prices_fit e s ≡ true → Prices e s
unfolding prices_fit
prices_small e s h =
    let k = and_true (price_fit e) (price_fit s) h in
    record { excess = price_small e k.0; shortfall = price_small s k.1 }

pub record Terms (k : HourTerms) : Type 0 where
  pub upper : nat_abs k.upper ≤ threshold_most
  pub lower : nat_abs k.lower ≤ threshold_most
  pub prices : Prices k.excess_price k.shortfall_price

pub terms_small : (k : HourTerms) → terms_fit k ≡ true → Terms k
unfolding terms_fit upper_fit lower_fit
terms_small k e =
    let both = and_true (upper_fit k.upper && lower_fit k.lower) _ e in
    let t = and_true (upper_fit k.upper) (lower_fit k.lower) both.0 in
    record {
      upper = above threshold_most k.upper t.0;
      lower = below threshold_most k.lower t.1;
      prices = prices_small _ _ both.1;
    }

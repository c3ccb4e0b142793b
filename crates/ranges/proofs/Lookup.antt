-- The row and the column of the table of defaults. Assumes nothing.
use mathlib.Core.Path.{◌≡◌}
use mathlib.Core.Bool.{true, false}
use Prim.Native.Nat.{◌≤◌, ◌<◌, ◌^◌}
use native.Mathlib.Omega.{arith}
use lib.Dec.{lit≤}
use lib.IntN.{ℤ, pos, nat_abs, ◌-ℤ◌}
use lib.Signed.{lt_z, le_z, mag}
use Rattle.integers.specs.Ranges.{natural}
use Rattle.integers.proofs.Linear.{lin1, diffs, linear}
use Rattle.integers.proofs.Tests.{and_true, natural-size, range_size}
use Rattle.rules.specs.Limits.{zone_fit, month_fit}
use Rattle.rules.proofs.Zones.{Zone, H, L, zone_of_lem}

pub row_fits : (zone : ℤ) → zone_fit zone ≡ true → natural zone < 2
unfolding natural
row_fits zone e = go (zone_of_lem zone e)
  where
    go : {z : ℤ} → Zone z → natural z < 2
    go H = omega arith
    go L = omega arith

pub month_size : (month : ℤ) → month_fit month ≡ true → nat_abs month ≤ 12
unfolding month_fit
month_size month e = range_size 12 (pos 1) (pos 12) month (lit≤ tt) (lit≤ tt) e

less_one_small : (x : ℤ) → nat_abs x ≤ 12 → mag (x -ℤ pos 1) < 2 ^ 63
less_one_small = lin1 _ (λ a b. simp diffs (omega linear))

pub less_one : (month : ℤ) → month_fit month ≡ true → mag (month -ℤ pos 1) < 2 ^ 63
less_one month e = less_one_small month (month_size month e)

pub column_fits : (month : ℤ) → month_fit month ≡ true → natural (month -ℤ pos 1) < 12
unfolding month_fit
column_fits month e =
    let k = and_true (le_z (pos 1) month) (le_z month (pos 12)) e in
    let b = below month k.0 k.1 in
    omega (arith, natural-size (month -ℤ pos 1) b.0, b.1)
  where
    below : (m : ℤ) → le_z (pos 1) m ≡ true → le_z m (pos 12) ≡ true → (lt_z (m -ℤ pos 1) (pos 0) ≡ false) × (nat_abs (m -ℤ pos 1) ≤ 11)
    below = lin1 _ (λ a b. simp diffs (omega linear))

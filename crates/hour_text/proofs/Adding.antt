-- The sums of two lists, place by place. Assumes nothing.
use mathlib.Core.Path.{◌≡◌}
use mathlib.Core.List.{List}
use Prim.Native.Nat.{ℕ, ◌<◌}
use native.Mathlib.Omega.{arith}
use lib.IntN.{ℤ, pos, ◌+ℤ◌}
use lib.ListN.{length, get_or}
use mir.Syntax.{w64}
use mir.Val.{SFits}
use Rattle.integers.proofs.Counts.{length-tabulate, get_or-tabulate}
use Rattle.integers.proofs.Machine.{fits}
use Rattle.hour_text.specs.Lent.{sums, Adds}

module _ (xs ys : List ℤ) where
  pub length-sums : length (sums xs ys) ≡ length xs
  unfolding sums
  length-sums = length-tabulate _ (length xs)

  pub sums_at : (k : ℕ) → k < length xs → get_or (sums xs ys) k (pos 0) ≡ get_or xs k (pos 0) +ℤ get_or ys k (pos 0)
  unfolding sums
  sums_at k h = get_or-tabulate _ (length xs) k (pos 0) h

  -- a sum of what is read
  pub sum_fits : {out : List ℤ} → Adds xs ys out → (k : ℕ) → k < length xs → {x y : ℤ} → x ≡ get_or xs k (pos 0)
      → y ≡ get_or ys k (pos 0) → SFits w64 (x +ℤ y)
  sum_fits a k h p q = rw (p, q) (fits _ (omega (arith, rw (sums_at k h) at (a.small.at k))))

-- Sums of numbers that are near. Assumes nothing.
use mathlib.Core.Path.{◌≡◌}
use mathlib.Core.Bool.{true}
use mathlib.Core.List.{List}
use Prim.Native.Nat.{ℕ, ◌≤◌, ◌<◌}
use native.Mathlib.Omega.{arith}
use lib.IntN.{ℤ, pos, negsuc, nat_abs, ◌+ℤ◌}
use lib.ListN.{length, get_or}
use mir.Syntax.{w64}
use mir.Val.{SFits}
use Rattle.integers.proofs.Counts.{length-tabulate, get_or-tabulate}
use Rattle.integers.proofs.Machine.{fits-add}
use Rattle.integers.proofs.Tests.{range_size}
use Rattle.checking.specs.Sums.{near, plus, added}

near-size : (x : ℤ) → near x ≡ true → nat_abs x ≤ 1000000000000000
unfolding near
near-size x e = range_size 1000000000000000 (negsuc 999999999999999) (pos 1000000000000000) x (omega arith) (omega arith) e

pub near_fits : (x y : ℤ) → near x ≡ true → near y ≡ true → SFits w64 (x +ℤ y)
near_fits x y a b =
    let h = near-size x a in
    let l = near-size y b in
    fits-add x y (omega arith)

module _ (xs ys : List ℤ) where
  pub added_long : length (added xs ys) ≡ length xs
  unfolding added
  added_long = length-tabulate _ (length xs)

  pub added_at : (i : ℕ) → i < length xs → get_or (added xs ys) i (pos 0) ≡ plus (get_or xs i (pos 0)) (get_or ys i (pos 0))
  unfolding added
  added_at i h = get_or-tabulate _ (length xs) i (pos 0) h

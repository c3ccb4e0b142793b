-- The sum of the elements passed so far. Assumes nothing.
use mathlib.Core.Path.{◌≡◌}
use lib.ListN.{take}
use Rattle.integers.specs.Lists.{sum_ℤ}
use Rattle.positions.proofs.sum_of.Given as goal

abbrev pub invariant-loop-amount : goal.invariant-loop-amount
invariant-loop-amount l = l.sum ≡ sum_ℤ (take l.amount-index l.amounts)

-- The positions before settlement of the users passed so far: in range, and their sum. Assumes nothing.
use mathlib.Core.Path.{◌≡◌}
use lib.ListN.{take}
use Rattle.integers.specs.Lists.{sum_ℤ, every}
use Rattle.rules.specs.Limits.{position_fit}
use Rattle.positions.specs.Before.{befores}
use Rattle.amounts.proofs.befores_of.Given as goal

abbrev pub invariant-loop-user : goal.invariant-loop-user
invariant-loop-user l =
    (l.fit ≡ every position_fit (take l.user (befores l.part l.amounts))) × (l.market ≡ sum_ℤ (take l.user (befores l.part l.amounts)))

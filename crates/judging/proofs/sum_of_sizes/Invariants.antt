-- The sum of the sizes of the users passed so far. Assumes nothing.
use mathlib.Core.Path.{◌≡◌}
use lib.ListN.{take}
use Rattle.integers.specs.Lists.{sum}
use Rattle.rules.specs.Market.{sizes}
use Rattle.positions.specs.Before.{befores}
use Rattle.positions.specs.Against.{found}
use Rattle.judging.proofs.sum_of_sizes.Given as goal

abbrev pub invariant-loop-user : goal.invariant-loop-user
invariant-loop-user l = l.sum ≡ sum (take l.user (sizes (found l.imbalance) (befores l.part l.amounts)))

-- The sums of the sizes passed so far. Assumes nothing.
use mathlib.Core.Path.{◌≡◌}
use mathlib.Core.List.{map}
use lib.ListN.{take}
use Rattle.integers.specs.Lists.{sum_ℤ}
use Rattle.rules.specs.Market.{sold_of, bought_of}
use Rattle.totals.proofs.sums_of.Given as goal

abbrev pub invariant-loop-traded : goal.invariant-loop-traded
invariant-loop-traded l =
    (l.sold ≡ sum_ℤ (take l.traded-index (map sold_of l.quantity))) × (l.bought ≡ sum_ℤ (take l.traded-index (map bought_of l.quantity)))

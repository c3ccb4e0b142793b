-- The places passed so far hold the value. Assumes nothing.
use mathlib.Core.Path.{◌≡◌}
use lib.ListN.{take}
use Rattle.integers.specs.Lists.{every}
use Rattle.checking.proofs.all_are.Given as goal

abbrev pub invariant-loop-x : goal.invariant-loop-x
invariant-loop-x g l = l.all ≡ every (g.T.PartialEq.eq l.value) (take l.x-index l.list)

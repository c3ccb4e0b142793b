-- The elements passed so far are in range. Assumes nothing.
use mathlib.Core.Path.{◌≡◌}
use lib.ListN.{take}
use Rattle.integers.specs.Ranges.{in_range}
use Rattle.integers.specs.Lists.{every}
use Rattle.integers.proofs.all_within.Given as goal

abbrev pub invariant-loop-x : goal.invariant-loop-x
invariant-loop-x l = l.fit ≡ every (in_range l.lo l.hi) (take l.x-index l.list)

-- Each turn adds at one place. Assumes nothing.
use mathlib.Core.Path.{◌≡◌}
use lib.ListN.{length}
use Rattle.integers.proofs.Passes.{Written}
use Rattle.checking.specs.Sums.{added}
use Rattle.checking.proofs.sums.add.Given as goal

abbrev pub invariant-loop-i : goal.invariant-loop-i
invariant-loop-i l = (l.i-end ≡ length l.initial.sums) × Written (added l.initial.sums l.list) l.initial.sums l.sums l.i

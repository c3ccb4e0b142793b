-- Each turn writes a position before. Assumes nothing.
use Rattle.integers.proofs.Passes.{Written}
use Rattle.hour_text.specs.Lent.{sums}
use Rattle.hour_text.proofs.add_quantities.Given as goal

abbrev pub invariant-loop-i : goal.invariant-loop-i
invariant-loop-i l = Written (sums l.quantity l.after) l.initial.before l.before l.i

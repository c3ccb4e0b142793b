-- Each turn copies one position. Assumes nothing.
use Rattle.integers.proofs.Passes.{Written}
use Rattle.positions.proofs.copy_all.Given as goal

abbrev pub invariant-loop-user : goal.invariant-loop-user
invariant-loop-user l = Written l.positions l.initial.places l.places l.user

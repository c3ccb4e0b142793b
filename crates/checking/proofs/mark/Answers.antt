-- By the test. Assumes nothing.
use Rattle.checking.specs.Same.{mark_of}
use Rattle.checking.proofs.mark.Goals as goal

pub returns-then-holds : goal.returns-then-holds
unfolding mark_of
returns-then-holds c = simp c.if-holds.true

pub returns-else-holds : goal.returns-else-holds
unfolding mark_of
returns-else-holds c = simp c.if-holds.false

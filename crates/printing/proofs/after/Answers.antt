-- By the test for a bar. Assumes nothing.
use borrow.Author.Tests.{eq-eqb, ne_eqb}
use Rattle.printing.specs.Words.{bars}
use Rattle.printing.proofs.after.Goals as goal

pub returns-then-byte-eq124 : goal.returns-then-byte-eq124
unfolding bars
returns-then-byte-eq124 c = rw (eq-eqb _ _ c.if-byte-eq124.true)

pub returns-else-byte-eq124 : goal.returns-else-byte-eq124
unfolding bars
returns-else-byte-eq124 c = rw (ne_eqb _ _ c.if-byte-eq124.false)

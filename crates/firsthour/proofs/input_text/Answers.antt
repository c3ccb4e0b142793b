-- By the length of the input. Assumes nothing.
use borrow.Author.Tests.{le-leb, lt-leb}
use Rattle.firsthour.specs.Printed.{printed}
use Rattle.firsthour.proofs.input_text.Goals as goal

pub returns-then-input-gt-INPUT_MOST : goal.returns-then-input-gt-INPUT_MOST
unfolding printed
returns-then-input-gt-INPUT_MOST c = rw (lt-leb _ _ c.if-input-gt-INPUT_MOST.true) (rw c.number.ensures at c.write_refused.ensures)

pub returns : goal.returns
unfolding printed
returns c = rw (le-leb _ _ c.if-input-gt-INPUT_MOST.false) c.file_text.ensures

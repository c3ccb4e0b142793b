-- Assumes nothing.
use Rattle.firsthour.proofs.Examples.{examples-printed}
use Rattle.firsthour.proofs.examples_are_printed.Goals as goal

pub returns : goal.returns
returns c = examples-printed

-- The library's test is the definition's. Assumes nothing.
use Rattle.csv_lines.proofs.Begins.{starts_begins}
use Rattle.csv_lines.proofs.begins_with.Goals as goal

pub returns : goal.returns
returns c = starts_begins c.args.file.now c.args.head.now c.starts_with.result c.starts_with.ensures.value

-- Assumes nothing.
use Rattle.file_guarantees.proofs.Examples.{examples-computed}
use Rattle.certificate.proofs.small_files_are_read_as_decided.Goals as goal

pub returns : goal.returns
returns c = examples-computed

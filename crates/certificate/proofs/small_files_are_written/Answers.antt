-- Assumes nothing.
use Rattle.writer_guarantees.proofs.Examples.{texts-computed}
use Rattle.certificate.proofs.small_files_are_written.Goals as goal

pub returns : goal.returns
returns c = texts-computed

-- Assumes nothing.
use Rattle.writer_guarantees.proofs.Guarantees.{written_is_read}
use Rattle.certificate.proofs.a_written_file_is_read_back.Goals as goal

pub returns : goal.returns
returns c = written_is_read

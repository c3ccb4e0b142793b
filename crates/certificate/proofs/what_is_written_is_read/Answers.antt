-- Assumes nothing.
use Rattle.writer_guarantees.proofs.Guarantees.{round_trip}
use Rattle.certificate.proofs.what_is_written_is_read.Goals as goal

pub returns : goal.returns
returns c = round_trip

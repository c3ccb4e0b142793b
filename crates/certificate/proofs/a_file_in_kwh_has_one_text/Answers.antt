-- Assumes nothing.
use Rattle.writer_guarantees.proofs.Guarantees.{one_text}
use Rattle.certificate.proofs.a_file_in_kwh_has_one_text.Goals as goal

pub returns : goal.returns
returns c = one_text

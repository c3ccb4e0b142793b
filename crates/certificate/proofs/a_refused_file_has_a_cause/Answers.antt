-- Assumes nothing.
use Rattle.file_guarantees.proofs.Guarantees.{cause_given}
use Rattle.certificate.proofs.a_refused_file_has_a_cause.Goals as goal

pub returns : goal.returns
returns c = cause_given

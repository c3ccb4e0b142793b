-- Assumes nothing.
use Rattle.file_guarantees.proofs.Guarantees.{read_if_obeyed}
use Rattle.certificate.proofs.files_are_read_if_they_obey.Goals as goal

pub returns : goal.returns
returns c = read_if_obeyed

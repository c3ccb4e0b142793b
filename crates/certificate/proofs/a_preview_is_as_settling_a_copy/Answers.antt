-- Assumes nothing.
use Rattle.rules.proofs.Guarantees.{as_settling_a_copy}
use Rattle.certificate.proofs.a_preview_is_as_settling_a_copy.Goals as goal

pub returns : goal.returns
returns c = as_settling_a_copy

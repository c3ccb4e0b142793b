-- Assumes nothing.
use Rattle.rules.proofs.Guarantees.{accuracy}
use Rattle.certificate.proofs.an_accepted_hour_is_accurate.Goals as goal

pub returns : goal.returns
returns c = accuracy

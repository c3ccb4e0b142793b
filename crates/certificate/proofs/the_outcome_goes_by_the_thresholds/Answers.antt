-- Assumes nothing.
use Rattle.rules.proofs.Guarantees.{outcome_by_thresholds}
use Rattle.certificate.proofs.the_outcome_goes_by_the_thresholds.Goals as goal

pub returns : goal.returns
returns c = outcome_by_thresholds

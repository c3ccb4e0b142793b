-- Assumes nothing.
use Rattle.rules.proofs.Guarantees.{totals_are_sums}
use Rattle.certificate.proofs.the_totals_are_the_sums.Goals as goal

pub returns : goal.returns
returns c = totals_are_sums

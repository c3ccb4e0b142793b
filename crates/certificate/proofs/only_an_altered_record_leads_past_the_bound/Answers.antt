-- Assumes nothing.
use Rattle.rules.proofs.Guarantees.{only_altered_passes}
use Rattle.certificate.proofs.only_an_altered_record_leads_past_the_bound.Goals as goal

pub returns : goal.returns
returns c = only_altered_passes

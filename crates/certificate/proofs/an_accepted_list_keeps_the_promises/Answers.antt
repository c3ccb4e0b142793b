-- Assumes nothing.
use Rattle.rules.proofs.Guarantees.{accepted_keeps}
use Rattle.certificate.proofs.an_accepted_list_keeps_the_promises.Goals as goal

pub returns : goal.returns
returns c = accepted_keeps

-- Assumes nothing.
use Rattle.rules.proofs.Guarantees.{own_day_fits}
use Rattle.certificate.proofs.a_day_of_our_own_is_never_turned_against_us.Goals as goal

pub returns : goal.returns
returns c = own_day_fits

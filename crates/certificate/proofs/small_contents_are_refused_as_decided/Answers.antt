-- Assumes nothing.
use Rattle.writer_guarantees.proofs.Examples.{causes-computed}
use Rattle.certificate.proofs.small_contents_are_refused_as_decided.Goals as goal

pub returns : goal.returns
returns c = causes-computed

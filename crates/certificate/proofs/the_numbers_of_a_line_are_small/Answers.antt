-- Assumes nothing.
use Rattle.file_guarantees.proofs.Guarantees.{small_numbers}
use Rattle.certificate.proofs.the_numbers_of_a_line_are_small.Goals as goal

pub returns : goal.returns
returns c = small_numbers

-- With each byte, what is left of the form is one byte shorter. Assumes nothing.
use Rattle.printing.specs.Words.{filled}
use Rattle.printing.proofs.Spelled.{spelling_next, spelling_end}
use Rattle.printing.proofs.Text.say_row.Goals as goal

pub loop-byte-preserved : goal.loop-byte-preserved
loop-byte-preserved g c =
    spelling_next c.loop-byte.invariant c.loop-byte-test.true c.say_number_or_byte.ensures c.after-seen.ensures

pub returns : goal.returns
unfolding filled
returns g c = spelling_end c.loop-byte.invariant c.loop-byte-test.false

-- With each byte, what is left of the list is one byte shorter. Assumes nothing.
use Rattle.printing.specs.Words.{word}
use Rattle.printing.proofs.Spelled.{spelling_next, spelling_end}
use Rattle.printing.proofs.Text.say_word.Goals as goal

pub loop-byte-preserved : goal.loop-byte-preserved
loop-byte-preserved g c =
    spelling_next c.loop-byte.invariant c.loop-byte-test.true c.say_letter.ensures c.after-seen.ensures

pub returns : goal.returns
unfolding word
returns g c = spelling_end c.loop-byte.invariant c.loop-byte-test.false

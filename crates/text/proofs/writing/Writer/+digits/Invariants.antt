-- By a measure that falls with each digit: the number. Assumes nothing.
use Rattle.text.proofs.writing.Writer.+digits.Given as goal

abbrev pub decreases-digits : goal.decreases-digits
decreases-digits l = l.n

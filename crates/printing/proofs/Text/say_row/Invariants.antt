-- With each byte, what is left of the form is one byte shorter. Assumes nothing.
use Rattle.printing.specs.Words.{number_or_byte}
use Rattle.printing.proofs.Spelled.{Spelling}
use Rattle.printing.proofs.Text.say_row.Given as goal

abbrev pub invariant-loop-byte : goal.invariant-loop-byte
invariant-loop-byte g l = Spelling (number_or_byte l.row) l.form g.row.N l.initial.self l.self l.seen l.byte-index

-- With each byte, what is left of the list is one byte shorter. Assumes nothing.
use Rattle.printing.specs.Words.{letter_of}
use Rattle.printing.proofs.Spelled.{Spelling}
use Rattle.printing.proofs.Text.say_word.Given as goal

abbrev pub invariant-loop-byte : goal.invariant-loop-byte
invariant-loop-byte g l = Spelling (letter_of l.which) l.names g.row.N l.initial.self l.self l.seen l.byte-index

-- What is proved of the record at the boundary to C. A statement only; the proof is in proofs/Guarantees.antt, and the crate `certificate` asks for it. Assumes nothing.
use Rattle.std.specs.Prelude.{◌≡◌, true}
use Rattle.rules.specs.declared.Day.{Day}
use Rattle.record_c.specs.declared.DayC.{DayC}
use Rattle.record_c.specs.Records.{marks_fit, day_for_c, day_of}

-- "each gets the record that the last call returned": what a call answers to C is, given to the next one, the record of the rules; and no other record is taken for it.
abbrev pub RecordKept : Type 0
RecordKept = ((d : Day) → day_of (day_for_c d) ≡ d) × ((d : DayC) → marks_fit d ≡ true → day_for_c (day_of d) ≡ d)

-- The number, then its comma. Assumes nothing.
use Rattle.std.proofs.Common.{arith, [], ◌∷◌, length-append}
use Rattle.integers.proofs.Machine.{read}
use Rattle.text.specs.Bytes.{comma}
use Rattle.text.specs.Decimals.{decimal, field}
use Rattle.text.proofs.Puts.{wrote_then, room_left, wrote_read}
use Rattle.text.proofs.writing.Writer.field.Goals as goal

pub decimal-requires : goal.decimal-requires
unfolding field
decimal-requires c = rw (read c.ranges.value) (omega (arith, c.requires, length-append (decimal c.args.value) (comma ∷ [])))

pub byte-requires : goal.byte-requires
unfolding field
byte-requires c =
    room_left (wrote_read decimal (read c.ranges.value) c.decimal.ensures.text) 1 (omega (arith, c.requires, length-append (decimal c.args.value) (comma ∷ [])))

pub returns-clause-text : goal.returns-clause-text
unfolding field
returns-clause-text c = wrote_then (wrote_read decimal (read c.ranges.value) c.decimal.ensures.text) c.byte.ensures

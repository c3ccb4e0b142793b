-- By a measure that falls with each digit: the number. Assumes nothing.
use Rattle.std.proofs.Common.{rules, arith}
use Rattle.text.proofs.Decimals.{digits_one, digits_more, length_one, length_more}
use Rattle.text.proofs.Puts.{wrote_then, room_left}
use Rattle.text.proofs.writing.Writer.+digits.Goals as goal

pub byte-requires : goal.byte-requires
byte-requires t c = omega (arith, length_one c.args.n (search rules))

pub returns-then-n-lt10 : goal.returns-then-n-lt10
returns-then-n-lt10 t c = rw (digits_one c.args.n (search rules)) c.byte.ensures

pub digits-requires : goal.digits-requires
digits-requires t c = (omega arith, omega (arith, length_more c.args.n (search rules)))

pub byte-requires-2 : goal.byte-requires-2
byte-requires-2 t c = room_left c.digits.ensures 1 (omega (arith, length_more c.args.n (search rules)))

pub returns : goal.returns
returns t c = rw (digits_more c.args.n (search rules)) (wrote_then c.digits.ensures c.byte-2.ensures)

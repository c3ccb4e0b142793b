-- The text of the number, and then that it is said. Assumes nothing.
use native.Mathlib.Omega.{arith}
use Rattle.text.proofs.Decimals.{decimal_room}
use Rattle.printing.proofs.Text.say_number.Goals as goal

pub decimal-requires : goal.decimal-requires
decimal-requires g c = omega (arith, decimal_room c.ranges.x)

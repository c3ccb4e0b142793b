-- The text of the number, and then that it is said. Assumes nothing.
use native.Mathlib.Omega.{arith}
use borrow.Author.Rules.{rules}
use Rattle.text.proofs.Decimals.{digits-length}
use Rattle.printing.proofs.Text.say_count.Goals as goal

pub digits-requires : goal.digits-requires
digits-requires g c = omega (arith, digits-length 19 c.args.n (search rules))

-- Nine digits fit. Assumes nothing.
use native.Mathlib.Omega.{arith}
use borrow.Author.Rules.{rules}
use Rattle.text.proofs.Numbers.{tens}
use Rattle.text.proofs.number.digits.Goals as goal

pub overflow_mul-value : goal.overflow_mul-value
overflow_mul-value c = omega (arith, c.loop-b.invariant.small, tens c.loop-b.b-index (search rules))

pub overflow_add-value : goal.overflow_add-value
overflow_add-value c =
    let d = c.if-not-is_ascii_digit.ensures.bound in
    omega (arith, c.loop-b.invariant.small, tens c.loop-b.b-index (search rules), c.from.ensures, d)

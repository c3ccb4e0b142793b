-- Each turn takes the last digit of what is left. Assumes nothing.
use native.Mathlib.Omega.{arith}
use borrow.Author.Rules.{rules}
use Rattle.text.proofs.Decimals.{digits-length, length_one, length_more}
use Rattle.text.proofs.writing.digit_count.Goals as goal

pub overflow_add-count : goal.overflow_add-count
overflow_add-count c = omega (arith, c.loop-rest.invariant.0, digits-length 19 c.args.n (search rules))

pub loop-rest-preserved : goal.loop-rest-preserved
loop-rest-preserved c =
    let l = c.loop-rest in
    (omega (arith, l.invariant.0, length_more l.rest (search rules)), omega (arith, l.invariant.1))

pub returns : goal.returns
returns c =
    let l = c.loop-rest in
    let e = length_one l.rest (search rules) in
    (omega (arith, l.invariant.0, e), omega (arith, l.invariant.0, e, digits-length 19 c.args.n (search rules)))

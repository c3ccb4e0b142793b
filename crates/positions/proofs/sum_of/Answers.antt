-- The sum of the elements passed so far. Assumes nothing.
use Rattle.integers.specs.Lists.{sum_ℤ}
use Rattle.integers.proofs.Machine.{back}
use Rattle.integers.proofs.Passes.{added-fits, added_next}
use Rattle.rules.specs.Limits.{position_most}
use borrow.Author.Rules.{rules}
use native.Mathlib.Omega.{arith}
use Rattle.positions.proofs.sum_of.Goals as goal

pub loop-amount-init : goal.loop-amount-init
unfolding sum_ℤ
loop-amount-init c = search rules

pub overflow_add-sum : goal.overflow_add-sum
overflow_add-sum c =
    let l = c.loop-amount in
    added-fits c.args.amounts.now l.amount-index l.sum-bits _ l.invariant (back _ (search rules)) position_most c.requires.1 (omega arith)

pub loop-amount-preserved : goal.loop-amount-preserved
loop-amount-preserved c =
    let l = c.loop-amount in
    added_next _ l.amount-index l.sum-bits _ l.invariant (back _ (search rules)) c.loop-amount-test.true (overflow_add-sum c)

-- Each turn tests a user. Assumes nothing.
use lib.IntN.{pos}
use lib.ListN.{get_or}
use Rattle.integers.specs.Lists.{every}
use Rattle.integers.proofs.Machine.{back}
use Rattle.rules.specs.Judging.{sign_right}
use Rattle.positions.specs.Against.{found}
use Rattle.judging.proofs.Users.{each_next, each_all}
use borrow.Author.Rules.{rules}
use native.Mathlib.Omega.{arith}
use Rattle.judging.proofs.signs_right.Goals as goal

pub loop-user-init : goal.loop-user-init
unfolding every
loop-user-init c = search rules

pub loop-user-preserved : goal.loop-user-preserved
loop-user-preserved c =
    let a = c.args in
    each_next (sign_right (found a.imbalance)) a.part.now a.amounts.now a.quantity.now c.requires.1 c.loop-user.user _ c.loop-user.invariant (omega arith)
    (rw (back c.before_at-before.result c.before_at-before.type_inv, c.before_at-before.ensures, back (get_or a.quantity.now c.loop-user.user (pos 0)) (search rules)) at c.sign_right-right.ensures)

pub returns : goal.returns
returns c =
    let a = c.args in
    each_all (sign_right (found a.imbalance)) a.part.now a.amounts.now a.quantity.now c.requires.1 c.loop-user.user _ c.loop-user.invariant (omega arith)

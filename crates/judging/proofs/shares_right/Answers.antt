-- Each turn tests a user. Assumes nothing.
use lib.IntN.{pos}
use lib.ListN.{get_or}
use Rattle.integers.specs.Lists.{every}
use Rattle.integers.proofs.Machine.{back, read_le}
use Rattle.rules.specs.Limits.{position_most}
use Rattle.rules.proofs.Small.{positions_small}
use Rattle.rules.specs.Judging.{share_right}
use Rattle.positions.specs.Before.{befores}
use Rattle.positions.specs.Against.{found}
use Rattle.judging.proofs.Users.{each_next, each_all}
use borrow.Author.Rules.{rules}
use native.Mathlib.Omega.{arith}
use Rattle.judging.proofs.shares_right.Goals as goal

pub loop-user-init : goal.loop-user-init
unfolding every
loop-user-init c = search rules

pub loop-user-preserved : goal.loop-user-preserved
loop-user-preserved c =
    let a = c.args in
    each_next (share_right (found a.imbalance) a.sum) a.part.now a.amounts.now a.quantity.now c.requires.1 c.loop-user.user _ c.loop-user.invariant (omega arith)
    (rw (back c.before_at-before.result c.before_at-before.type_inv, c.before_at-before.ensures, back (get_or a.quantity.now c.loop-user.user (pos 0)) (search rules)) at c.share_right-right.ensures)

pub returns : goal.returns
returns c =
    let a = c.args in
    each_all (share_right (found a.imbalance) a.sum) a.part.now a.amounts.now a.quantity.now c.requires.1 c.loop-user.user _ c.loop-user.invariant (omega arith)

pub share_right-right-requires : goal.share_right-right-requires
share_right-right-requires c =
    let small = positions_small (befores c.args.part.now c.args.amounts.now) c.requires.0.positions in
    (c.requires.2, c.requires.3, read_le c.before_at-before.result position_most (rw c.before_at-before.ensures (small.at c.loop-user.user)))

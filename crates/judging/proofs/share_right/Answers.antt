-- Past the test of the sizes both products are small; and what it turns away is not near. Assumes nothing.
use mathlib.Core.Path.{◌≡◌, refl}
use borrow.Author.Tests.{lt-leb}
use Rattle.integers.proofs.Machine.{read}
use Rattle.rules.specs.Market.{caused}
use Rattle.rules.specs.Judging.{share_right, near}
use Rattle.positions.specs.Against.{found}
use Rattle.judging.proofs.Users.{far}
use Rattle.judging.proofs.share_right.Goals.{After-caused}
use Rattle.judging.proofs.share_right.Goals as goal

module _ (c : After-caused) where
  rule_3 : c.caused.result ≡ caused (found c.args.imbalance) c.args.position
  rule_3 = rw (read c.ranges.position) at c.caused.ensures

pub returns-then-not-caused : goal.returns-then-not-caused
unfolding share_right
returns-then-not-caused c = rw (← rule_3 (goal.at.returns-then-not-caused c).After-caused, c.if-not-caused.true) refl

pub returns-then-size-own : goal.returns-then-size-own
unfolding share_right near
returns-then-size-own c =
    rw (← rule_3 (goal.at.returns-then-size-own c).After-caused, c.if-not-caused.false)
    (rw (c.unsigned_abs-size.ensures.value, c.unsigned_abs-own.ensures.value, c.total.ensures, read c.ranges.quantity, read c.ranges.position) at c.differs_by_less.ensures)

pub returns-else-size-own : goal.returns-else-size-own
unfolding share_right
returns-else-size-own c =
    let above = rw (c.unsigned_abs-size.ensures.value, c.unsigned_abs-own.ensures.value, read c.ranges.quantity, read c.ranges.position) at c.if-size-own.false in
    rw (← rule_3 (goal.at.returns-else-size-own c).After-caused, c.if-not-caused.false, far (found c.args.imbalance) c.args.sum c.args.position c.args.quantity c.requires.0 above)
    (lt-leb _ _ c.if-size-own.false)

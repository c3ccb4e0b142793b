-- The places passed so far hold the value. Assumes nothing.
use Rattle.integers.specs.Lists.{every}
use Rattle.integers.proofs.Passes.{every-step}
use borrow.Author.Rules.{rules}
use Rattle.checking.proofs.all_are.Goals as goal

pub loop-x-init : goal.loop-x-init
unfolding every
loop-x-init g c = search rules

pub loop-x-preserved : goal.loop-x-preserved
loop-x-preserved g c =
    rw (every-step (g.T.PartialEq.eq c.args.value) c.x-item.result c.args.list.now c.loop-x.x-index c.loop-x-test.true) (search rules)

-- Each turn copies one position. Assumes nothing.
use mathlib.Core.Path.{sym}
use lib.IntN.{pos}
use Rattle.integers.proofs.Machine.{back}
use Rattle.integers.proofs.Passes.{written_next, written_all}
use borrow.Author.Rules.{rules}
use native.Mathlib.Omega.{arith}
use Rattle.positions.proofs.copy_all.Goals as goal

pub loop-user-preserved : goal.loop-user-preserved
loop-user-preserved c =
    let l = c.loop-user in
    written_next _ c.args.places.now _ _ l.invariant (sym c.requires) (pos 0) _ (omega arith) (back _ (search rules))

pub returns : goal.returns
returns c = written_all _ c.args.places.now _ _ c.loop-user.invariant (sym c.requires) (omega arith)

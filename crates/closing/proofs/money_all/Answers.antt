-- Each turn writes one user's money. Assumes nothing.
use mathlib.Core.Path.{sym, ◌∙◌}
use lib.IntN.{pos}
use lib.ListN.{get_or, length-map}
use Rattle.integers.proofs.Machine.{read, back}
use Rattle.integers.proofs.Counts.{get_or-map_at}
use Rattle.integers.proofs.Passes.{written_next, written_all}
use Rattle.rules.specs.Market.{moneys}
use borrow.Author.Rules.{rules}
use native.Mathlib.Omega.{arith}
use Rattle.closing.proofs.money_all.Goals as goal

pub loop-i-preserved : goal.loop-i-preserved
loop-i-preserved c =
    let l = c.loop-i in
    let qs = c.args.quantity.now in
    let v = rw (back (get_or qs l.i (pos 0)) (search rules)) at c.money_of.ensures in
    written_next _ c.args.money.now _ _ l.invariant (length-map qs _ ∙ sym c.requires.2) (pos 0) _ (omega arith)
    (back _ c.money_of.type_inv ∙ v ∙ sym (get_or-map_at _ qs l.i (pos 0) (pos 0) (omega arith)))

pub returns : goal.returns
unfolding moneys
returns c =
    let f = c.ranges in
    rw (read f.excess_price, read f.shortfall_price) at
    (written_all _ c.args.money.now _ _ c.loop-i.invariant (length-map c.args.quantity.now _ ∙ sym c.requires.2) (omega arith))

-- Each turn writes a size. Assumes nothing.
use mathlib.Core.Path.{sym, ◌∙◌}
use lib.IntN.{pos}
use lib.ListN.{length-map, get_or}
use Rattle.integers.proofs.Machine.{back}
use Rattle.integers.proofs.Counts.{get_or-map_at}
use Rattle.integers.proofs.Passes.{written_next, written_all}
use Rattle.rules.specs.Market.{size}
use Rattle.sides.specs.Sides.{side}
use borrow.Author.Rules.{rules}
use native.Mathlib.Omega.{arith}
use Rattle.sides.proofs.size_all.Goals as goal

pub loop-i-preserved : goal.loop-i-preserved
loop-i-preserved c =
    let l = c.loop-i in
    let ps = c.args.positions.now in
    let f = size (side c.args.up 0) in
    let v = rw (back (get_or ps l.i (pos 0)) (search rules)) at c.size_on.ensures in
    written_next _ c.args.sizes.now _ _ l.invariant (length-map ps f ∙ sym c.requires.0) 0 _ (omega arith)
    (v ∙ sym (get_or-map_at f ps l.i 0 (pos 0) (omega arith)))

pub returns : goal.returns
returns c =
    let ps = c.args.positions.now in
    written_all _ c.args.sizes.now _ _ c.loop-i.invariant (length-map ps (size (side c.args.up 0)) ∙ sym c.requires.0) (omega arith)

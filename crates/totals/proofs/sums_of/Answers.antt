-- The sums of the sizes passed so far. Assumes nothing.
use mathlib.Core.Path.{◌≡◌, sym, ap, ap₂, ◌∙◌}
use mathlib.Core.List.{map}
use lib.IntN.{ℤ, pos}
use lib.ListN.{get_or, length-map}
use lib.Seq.{take_all}
use mir.Syntax.{w64}
use mir.Val.{to_z, of_z}
use Rattle.integers.specs.Lists.{sum_ℤ}
use Rattle.integers.proofs.Machine.{back}
use Rattle.integers.proofs.Counts.{get_or-map_at}
use Rattle.integers.proofs.Passes.{added-fits, added_next}
use Rattle.rules.specs.Limits.{position_most}
use Rattle.rules.specs.Market.{sold_of, bought_of, sold, bought}
use Rattle.rules.proofs.Totals.{at_most_sold, at_most_bought}
use borrow.Author.Rules.{rules}
use native.Mathlib.Omega.{arith}
use Rattle.totals.proofs.sums_of.Goals.{After-sold_of-sold, After-bought_of-bought}
use Rattle.totals.proofs.sums_of.Goals as goal

-- the two sizes that are added
sale : (c : After-sold_of-sold) → to_z w64 (of_z w64 c.sold_of-sold.result) ≡ get_or (map sold_of c.args.quantity.now) c.loop-traded.traded-index (pos 0)
sale c =
    let qs = c.args.quantity.now in
    let i = c.loop-traded.traded-index in
    back _ c.sold_of-sold.type_inv ∙ rw (back (get_or qs i (pos 0)) (search rules)) at c.sold_of-sold.ensures ∙ sym (get_or-map_at sold_of qs i (pos 0) (pos 0) (omega arith))

purchase : (c : After-bought_of-bought) → to_z w64 (of_z w64 c.bought_of-bought.result) ≡ get_or (map bought_of c.args.quantity.now) c.loop-traded.traded-index (pos 0)
purchase c =
    let qs = c.args.quantity.now in
    let i = c.loop-traded.traded-index in
    back _ c.bought_of-bought.type_inv ∙ rw (back (get_or qs i (pos 0)) (search rules)) at c.bought_of-bought.ensures ∙ sym (get_or-map_at bought_of qs i (pos 0) (pos 0) (omega arith))

pub loop-traded-init : goal.loop-traded-init
unfolding sum_ℤ
loop-traded-init c = search rules

pub overflow_add-sold : goal.overflow_add-sold
overflow_add-sold c =
    let l = c.loop-traded in
    let s = sale (goal.at.overflow_add-sold c).After-sold_of-sold in
    added-fits (map sold_of c.args.quantity.now) l.traded-index l.sold-bits _ l.invariant.0 s position_most
    (at_most_sold c.args.quantity.now c.requires.1) (omega arith)

pub overflow_add-bought : goal.overflow_add-bought
overflow_add-bought c =
    let l = c.loop-traded in
    let s = purchase (goal.at.overflow_add-bought c).After-bought_of-bought in
    added-fits (map bought_of c.args.quantity.now) l.traded-index l.bought-bits _ l.invariant.1 s position_most
    (at_most_bought c.args.quantity.now c.requires.1) (omega arith)

pub loop-traded-preserved : goal.loop-traded-preserved
loop-traded-preserved c =
    let l = c.loop-traded in
    let qs = c.args.quantity.now in
    let d = goal.at.loop-traded-preserved c in (
      added_next _ l.traded-index l.sold-bits _ l.invariant.0 (sale d.After-sold_of-sold) (omega (arith, length-map qs sold_of)) (overflow_add-sold d.After-sold_of-sold),
      added_next _ l.traded-index l.bought-bits _ l.invariant.1 (purchase d.After-bought_of-bought) (omega (arith, length-map qs bought_of)) (overflow_add-bought c),
    )

pub returns : goal.returns
unfolding sold bought sold_of bought_of
returns c =
    let l = c.loop-traded in
    let qs = c.args.quantity.now in
    ap₂ (λ (s b : ℤ). record { sold = s; bought = b })
    (l.invariant.0 ∙ ap sum_ℤ (take_all l.traded-index (map sold_of qs) (omega (arith, length-map qs sold_of))))
    (l.invariant.1 ∙ ap sum_ℤ (take_all l.traded-index (map bought_of qs) (omega (arith, length-map qs bought_of))))

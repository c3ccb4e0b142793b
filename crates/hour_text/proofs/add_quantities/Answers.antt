-- Each turn writes a position before. Assumes nothing.
use mathlib.Core.Path.{sym, ap₂, ◌∙◌}
use native.Mathlib.Omega.{arith}
use lib.IntN.{ℤ, pos, ◌+ℤ◌}
use lib.ListN.{get_or}
use borrow.Author.Rules.{rules}
use Rattle.integers.proofs.Machine.{read, back}
use Rattle.integers.proofs.Passes.{written_next, written_all}
use Rattle.hour_text.specs.Lent.{sums}
use Rattle.hour_text.proofs.Adding.{length-sums, sums_at, sum_fits}
use Rattle.hour_text.proofs.add_quantities.Goals as goal

pub overflow_add-sum : goal.overflow_add-sum
overflow_add-sum c =
    let a = c.args in
    let i = c.loop-i.i in
    sum_fits a.quantity.now a.after.now c.requires i (search rules)
    (back (get_or a.quantity.now i (pos 0)) (search rules)) (back (get_or a.after.now i (pos 0)) (search rules))

pub loop-i-preserved : goal.loop-i-preserved
loop-i-preserved c =
    let l = c.loop-i in
    let q = c.args.quantity.now in
    let a = c.args.after.now in
    let first = back (get_or q l.i (pos 0)) (search rules) in
    let second = back (get_or a l.i (pos 0)) (search rules) in
    written_next (sums q a) c.args.before.now l.before l.i l.invariant (length-sums q a ∙ sym c.requires.outs) (pos 0) _ (omega (arith, c.requires.outs))
    (read (overflow_add-sum c) ∙ ap₂ (λ (x y : ℤ). x +ℤ y) first second ∙ sym (sums_at q a l.i (search rules)))

pub returns : goal.returns
returns c =
    let l = c.loop-i in
    let a = c.args in
    let long = length-sums a.quantity.now a.after.now ∙ sym c.requires.outs in
    written_all _ a.before.now l.before l.i l.invariant long (omega (arith, c.requires.outs))

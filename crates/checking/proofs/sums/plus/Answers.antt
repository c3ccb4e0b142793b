-- By whether both are near. Assumes nothing.
use mathlib.Core.Path.{sym, ◌∙◌}
use Rattle.integers.proofs.Machine.{read}
use Rattle.checking.specs.Sums.{plus}
use Rattle.checking.proofs.Near.{near_fits}
use borrow.Author.Rules.{rules}
use Rattle.checking.proofs.sums.plus.Goals as goal

pub overflow_add-result : goal.overflow_add-result
overflow_add-result c = near_fits _ _ (sym c.if-near.ensures) (sym c.if-near-2.ensures)

pub returns-then-near-2 : goal.returns-then-near-2
unfolding plus
returns-then-near-2 c =
    let f = c.ranges in
    let a = sym c.if-near.ensures in
    let b = sym c.if-near-2.ensures in
    read (near_fits _ _ a b) ∙ rw (read f.a, read f.b) (search rules)

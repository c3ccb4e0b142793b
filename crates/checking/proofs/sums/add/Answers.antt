-- Each turn adds at one place. Assumes nothing.
use mathlib.Core.Path.{refl, sym, ◌∙◌}
use native.Mathlib.Omega.{arith}
use lib.IntN.{pos}
use lib.ListN.{get_or}
use Rattle.integers.proofs.Machine.{back}
use Rattle.integers.proofs.Passes.{written_elem, written_next, written_all}
use Rattle.checking.specs.Sums.{added}
use Rattle.checking.proofs.Near.{added_long, added_at}
use borrow.Author.Rules.{rules}
use Rattle.checking.proofs.sums.add.Goals as goal

pub loop-i-preserved : goal.loop-i-preserved
loop-i-preserved c =
    let l = c.loop-i in
    let o = c.args.sums.now in
    let more = c.args.list.now in
    let h = c.loop-i-test.true in
    let was = written_elem (added o more) o l.sums l.i l.invariant.1 (added_long o more) (pos 0) h in
    let is = rw (
      back (get_or l.sums l.i (pos 0)) (search rules),
      was,
      back c.at.result c.at.type_inv,
      c.at.ensures,
    ) at c.plus.ensures in (
      refl,
      written_next (added o more) o l.sums l.i l.invariant.1 (added_long o more) (pos 0) _ h (back c.plus.result c.plus.type_inv ∙ is ∙ sym (added_at o more l.i h)),
    )

pub returns : goal.returns
returns c =
    let l = c.loop-i in
    let s = c.args in
    written_all _ s.sums.now _ l.i l.invariant.1 (added_long s.sums.now s.list.now) (omega (arith, l.invariant.1.long))

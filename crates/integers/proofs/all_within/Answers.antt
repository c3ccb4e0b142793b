-- The elements passed so far are in range. Assumes nothing.
use mathlib.Core.Path.{◌≡◌, refl, sym, ap, ◌∙◌}
use mathlib.Core.Bool.{Bool, ◌&&◌}
use lib.IntN.{pos}
use lib.ListN.{get_or}
use mir.Syntax.{w64}
use mir.Val.{to_z, of_z}
use Rattle.integers.specs.Ranges.{in_range}
use Rattle.integers.specs.Lists.{every}
use Rattle.integers.proofs.Passes.{every-step}
use borrow.Author.Rules.{rules}
use Rattle.integers.proofs.all_within.Goals as goal

pub loop-x-init : goal.loop-x-init
unfolding every
loop-x-init c = refl

pub loop-x-preserved : goal.loop-x-preserved
loop-x-preserved c =
    let l = c.loop-x in
    let v = get_or c.args.list.now l.x-index (pos 0) in
    let p = in_range (to_z w64 (of_z w64 c.args.lo)) (to_z w64 (of_z w64 c.args.hi)) in
    let same : to_z w64 (of_z w64 v) ≡ v = search rules in
    rw same (ap (λ (b : Bool). b && p v) l.invariant ∙ sym (every-step p (pos 0) c.args.list.now l.x-index c.loop-x-test.true))

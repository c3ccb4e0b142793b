-- The bits of the places passed so far, by `|`. Assumes nothing.
use Rattle.std.proofs.Common.{refl, rules, bit_or, get_or, pos}
use mir.Syntax.{w64}
use mir.Val.{Fits, SFits, of_z}
use Rattle.std.proofs.Math.Facts.{of_z-to_z, Fits-or, Fits-of_z}
use lib.Seq.{take_all}
use Rattle.integers.specs.Lists.{every}
use Rattle.places.proofs.Tables.{zeros_next}
use Rattle.places.proofs.all_zero.Goals as goal

pub loop-place-init : goal.loop-place-init
unfolding every
loop-place-init c = refl

pub loop-place-preserved : goal.loop-place-preserved
loop-place-preserved c =
    let l = c.loop-place in
    let v = get_or c.args.places.now l.place-index (pos 0) in
    let fits : SFits w64 v = search rules in
    let both : Fits w64 (bit_or l.all-bits (of_z w64 v)) = Fits-or l.auto.all (Fits-of_z fits) in
    rw (of_z-to_z both) (zeros_next c.args.places.now l.place-index l.all-bits c.loop-place-test.true fits (rw (of_z-to_z l.auto.all) at l.invariant))

pub returns : goal.returns
returns c =
    let l = c.loop-place in
    rw (take_all l.place-index c.args.places.now c.loop-place-test.false) at (rw (of_z-to_z l.auto.all) at l.invariant)

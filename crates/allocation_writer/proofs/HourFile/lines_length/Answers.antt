-- Each turn adds the length of one line. Assumes nothing.
use native.Mathlib.Omega.{arith}
use Rattle.allocation_writer.proofs.Lines.{added_none, added_next, added_all}
use Rattle.allocation_writer.proofs.HourFile.lines_length.Goals as goal

pub loop-place-init : goal.loop-place-init
loop-place-init c = added_none _

pub overflow_add-total : goal.overflow_add-total
overflow_add-total c =
    let k = c.requires.0 in
    record { fits = omega (arith, c.loop-place.invariant.few, c.line_length-total.ensures.1, c.loop-place-test.true, k.entry, k.few) }

pub loop-place-preserved : goal.loop-place-preserved
loop-place-preserved c =
    added_next _ c.loop-place.invariant (omega (arith, c.requires.0.entry, c.loop-place-test.true)) c.row_at.ensures c.line_length-total.ensures

pub returns : goal.returns
returns c =
    let k = c.requires.0 in
    let l = c.loop-place in (
      added_all _ l.invariant (omega (arith, k.entry, c.loop-place-test.false)),
      omega (arith, l.invariant.few, l.auto.place-end, k.entry, k.few),
    )

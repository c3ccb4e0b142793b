-- Length and hours are read as they are. Assumes nothing.
use mathlib.Core.Path.{refl}
use Rattle.integers.proofs.Machine.{read, back}
use Rattle.rules.specs.Causes.{zone_day_fit}
use Rattle.day_record.proofs.zone_day_fit.Goals as goal

pub returns : goal.returns
unfolding zone_day_fit
returns c =
    let n = c.hours_of_day-length in
    let h = c.hours_done-hours in
    rw (back n.result n.type_inv, back h.result h.type_inv, n.ensures, h.ensures, c.is_closed-open.ensures, read c.ranges.zone) refl

-- The hours done are few, so that one more fits. Assumes nothing.
use Prim.Native.Nat.{◌≤◌}
use mathlib.Core.Path.{ap, ◌∙◌}
use mathlib.Core.Bool.{◌&&◌}
use lib.IntN.{ℤ, pos, nat_abs, ◌+ℤ◌}
use lib.Signed.{le_z}
use borrow.Author.Rules.{rules}
use Rattle.integers.specs.Ranges.{equal}
use Rattle.rules.specs.Days.{hours_done}
use Rattle.rules.specs.Limits.{length_most}
use Rattle.rules.specs.Causes.{hour_next}
use Rattle.integers.proofs.Machine.{back, fitting}
use Rattle.day_record.proofs.Records.{hours_few, equal_bits}
use Rattle.day_record.proofs.hour_next.Goals.{After-hours_done-next}
use Rattle.day_record.proofs.hour_next.Goals as goal

pub overflow_add-next : goal.overflow_add-next
overflow_add-next c =
    let few : nat_abs c.hours_done-next.result ≤ length_most = rw c.hours_done-next.ensures (hours_few _ _ c.requires) in
    omega fitting

pub returns : goal.returns
unfolding hour_next
returns c =
    let h = c.hours_done-next in
    let n = c.hours_of_day-length in
    let k = c.args.terms in
    let sum = overflow_add-next (goal.at.returns c).After-hours_done-next in
    rw (
      equal_bits {x = k.hour} (search rules) sum,
      back h.result h.type_inv,
      h.ensures,
      back k.zone (search rules),
      back k.hour (search rules),
    )
    (ap (λ (len : ℤ). equal k.hour (hours_done k.zone c.args.day +ℤ pos 1) && le_z k.hour len) (back n.result n.type_inv ∙ n.ensures))

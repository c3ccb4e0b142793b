-- The totals of a record that fits may be added to. Assumes nothing.
use mathlib.Core.Path.{◌≡◌, refl, sym, ap, subst, ◌∙◌}
use native.Mathlib.Omega.{arith}
use lib.IntN.{ℤ}
use Rattle.integers.proofs.Machine.{read, fits-add}
use Rattle.rules.specs.Days.{zone_day, total_sold, total_bought}
use Rattle.rules.specs.Causes.{totals_bounded}
use Rattle.day_record.specs.Small.{PartSmall}
use Rattle.day_record.proofs.Records.{part_small}
use Rattle.day_record.proofs.totals_bounded.Goals.{After-zone_day}
use Rattle.day_record.proofs.totals_bounded.Goals as goal

-- the part of the record that is looked at
part : (c : After-zone_day) → c.zone_day.result ≡ zone_day c.args.zone c.args.day
part c = c.zone_day.ensures ∙ ap (λ (z : ℤ). zone_day z c.args.day) (read c.ranges.zone)

pub totals_with-totals-requires : goal.totals_with-totals-requires
totals_with-totals-requires c = (
  c.requires.1,
  subst PartSmall (sym (part (goal.at.totals_with-totals-requires c).After-zone_day)) (part_small c.args.zone c.args.day c.requires.0),
)

pub returns : goal.returns
unfolding totals_bounded total_sold total_bought
returns c =
    let a = c.args in
    let z = zone_day a.zone a.day in
    let small = part_small a.zone a.day c.requires.0 in
    let sums = c.requires.1 in
    rw (
      c.totals_with-totals.ensures,
      part (goal.at.returns c).After-zone_day,
      read (fits-add z.sold a.sums.sold (omega (arith, small.sold, sums.sold))),
      read (fits-add z.bought a.sums.bought (omega (arith, small.bought, sums.bought))),
    ) refl

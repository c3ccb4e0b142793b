-- Hours and totals are read as they are. Assumes nothing.
use mathlib.Core.Path.{ap, ap₂, ◌∙◌}
use mathlib.Core.Bool.{Bool, not, ◌&&◌, ◌||◌}
use lib.IntN.{ℤ}
use Rattle.integers.proofs.Machine.{read, back, zero_bits}
use Rattle.integers.specs.Ranges.{is_zero}
use Rattle.rules.specs.declared.ZoneDay.{ZoneDay}
use Rattle.rules.specs.Limits.{total_fit}
use Rattle.rules.specs.Days.{zone_day, hours_done, total_sold, total_bought}
use Rattle.rules.specs.Causes.{totals_fit}
use borrow.Author.Rules.{rules}
use Rattle.day_record.proofs.totals_fit.Goals as goal

-- the test, of a zone's part of the record
of_part : ZoneDay → Bool
of_part z = (not (is_zero z.hours) || (is_zero z.sold && is_zero z.bought)) && (total_fit z.sold && total_fit z.bought)

pub returns : goal.returns
unfolding totals_fit hours_done total_sold total_bought of_part
returns c =
    let z = c.zone_day-part.result in
    let begun = ap not (zero_bits {x = z.hours} (search rules)) in
    let none = ap₂ ◌&&◌ (zero_bits {x = z.sold} (search rules)) (zero_bits {x = z.bought} (search rules)) in
    let sold = c.fits.ensures ∙ ap total_fit (back z.sold (search rules)) in
    let bought = c.fits-2.ensures ∙ ap total_fit (back z.bought (search rules)) in
    ap₂ ◌&&◌ (ap₂ ◌||◌ begun none) (ap₂ ◌&&◌ sold bought)
    ∙ ap of_part (c.zone_day-part.ensures ∙ ap (λ (zone : ℤ). zone_day zone c.args.day) (read c.ranges.zone))

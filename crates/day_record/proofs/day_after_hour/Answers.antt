-- The zone's part has one hour more, and its totals are added to. Assumes nothing.
use mathlib.Core.Path.{◌∙◌}
use Rattle.integers.proofs.Machine.{read}
use Rattle.rules.specs.Days.{hour_more, day_after_hour}
use Rattle.day_record.proofs.Records.{part_small, with_part_of}
use Rattle.day_record.proofs.day_after_hour.Goals as goal

pub hour_more-requires : goal.hour_more-requires
hour_more-requires c = (c.requires.1, rw (c.zone_day.ensures, read c.ranges.zone) (part_small _ _ c.requires.0))

pub returns : goal.returns
unfolding day_after_hour
returns c = c.with_zone_day.ensures ∙ rw (c.hour_more.ensures, c.zone_day.ensures, read c.ranges.zone) (with_part_of c.args.zone (hour_more c.args.sums) c.args.day)

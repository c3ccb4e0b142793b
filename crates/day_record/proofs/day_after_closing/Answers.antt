-- The zone's part is marked closed, and its totals are added to. Assumes nothing.
use mathlib.Core.Path.{◌∙◌}
use Rattle.integers.proofs.Machine.{read}
use Rattle.rules.specs.Days.{closed_now, day_after_closing}
use Rattle.day_record.proofs.Records.{part_small, with_part_of}
use Rattle.day_record.proofs.day_after_closing.Goals as goal

pub closed_now-requires : goal.closed_now-requires
closed_now-requires c = (c.requires.1, rw (c.zone_day.ensures, read c.ranges.zone) (part_small _ _ c.requires.0))

pub returns : goal.returns
unfolding day_after_closing
returns c = c.with_zone_day.ensures ∙ rw (c.closed_now.ensures, c.zone_day.ensures, read c.ranges.zone) (with_part_of c.args.zone (closed_now c.args.sums) c.args.day)

-- The day record as C holds it: `closed` is a number, 0 or 1. Assumes nothing.
use Rattle.std.specs.Prelude.{Bool, cond, not, ◌&&◌, ℤ, pos}
use Rattle.integers.specs.Ranges.{in_range, is_zero}
use Rattle.integers.specs.Lists.{bit}
use Rattle.rules.specs.declared.Day.{Day}
use Rattle.rules.specs.declared.ZoneDay.{ZoneDay}
use Rattle.record_c.specs.declared.DayC.{DayC}
use Rattle.record_c.specs.declared.ZoneDayC.{ZoneDayC}

-- ---- a record that a call answers
unfoldable pub zone_for_c : ZoneDay → ZoneDayC
zone_for_c z = record { hours = z.hours; closed = pos (bit z.closed); sold = z.sold; bought = z.bought }

unfoldable pub day_for_c : Day → DayC
day_for_c d = record { users = d.users; length = d.length; h = zone_for_c d.h; l = zone_for_c d.l }

-- ---- a record that a caller gives

-- `closed` is 0 or 1
unfoldable pub mark_fits : ZoneDayC → Bool
mark_fits z = in_range (pos 0) (pos 1) z.closed

unfoldable pub marks_fit : DayC → Bool
marks_fit d = mark_fits d.h && mark_fits d.l

-- where it is another number in either zone, the record counts no user, and so every call that is given it turns it away by 2
unfoldable pub users_of : DayC → ℤ
users_of d = cond (marks_fit d) d.users (pos 0)

unfoldable pub zone_of : ZoneDayC → ZoneDay
zone_of z = record { hours = z.hours; closed = not (is_zero z.closed); sold = z.sold; bought = z.bought }

unfoldable pub day_of : DayC → Day
day_of d = record { users = users_of d; length = d.length; h = zone_of d.h; l = zone_of d.l }

-- "Causes for turning a call away": each a test that holds where its cause does not apply; then the first cause of each call. For 24 in the words of document 01 stands the length of the
-- day, by document 02: "Causes 2 and 6 read that length in the place of 24, for both zones." Assumes nothing.
use Rattle.std.specs.Prelude.{Bool, not, ◌&&◌, ◌||◌, List, Result, ℕ, eqb, ℤ, pos, ◌+ℤ◌, length, drop}
use Rattle.std.specs.Int.Signed.{le_z}
use Rattle.integers.specs.Ranges.{in_range, equal, is_zero}
use Rattle.integers.specs.Lists.{sum_ℤ, every}
use Rattle.rules.specs.declared.Cause.{Cause}
use Rattle.rules.specs.declared.Cause.TheVariants as cause
use Rattle.rules.specs.declared.Day.{Day}
use Rattle.rules.specs.declared.HourTerms.{HourTerms}
use Rattle.rules.specs.declared.ClosingTerms.{ClosingTerms}
use Rattle.rules.specs.declared.Sums.{Sums}
use Rattle.rules.specs.Limits.{users_fit, length_fit, zone_fit, entry_fit, exit_fit, title_fit, pooling_fit, position_fit, total_most, total_fit, upper_fit, lower_fit, price_fit, month_fit}
use Rattle.rules.specs.Days.{users, hours_of_day, hours_done, is_closed, total_sold, total_bought, part}
use Rattle.rules.specs.Hours.{Hour, Closing, before}
use Rattle.rules.specs.Market.{hour_sums, closing_sums}
use Rattle.rules.specs.Refusals.{unless, ◌then◌}

-- ---- 2: "record's user count not 1 to 128, hours not 0 to 24, or a zone closed with fewer than 24"; document 02: "cause 2 also covers a record with another length"
unfoldable pub zone_day_fit : ℤ → Day → Bool
zone_day_fit zone d = in_range (pos 0) (hours_of_day d) (hours_done zone d) && (not (is_closed zone d) || le_z (hours_of_day d) (hours_done zone d))

-- document 02: "Cause 2 also covers a zone with no hours done whose totals are not zero, and a total below zero or above 332,800,000,000."
unfoldable pub totals_fit : ℤ → Day → Bool
totals_fit zone d =
    (not (is_zero (hours_done zone d)) || (is_zero (total_sold zone d) && is_zero (total_bought zone d)))
    && (total_fit (total_sold zone d) && total_fit (total_bought zone d))

unfoldable pub day_fit : Day → Bool
day_fit d =
    users_fit d.users
    && (length_fit (hours_of_day d)
    && ((zone_day_fit (pos 0) d && zone_day_fit (pos 1) d)
    && (totals_fit (pos 0) d && totals_fit (pos 1) d)))

-- ---- 3: "table not of 256 places, or a list or the scratch not of exactly the user count"
unfoldable pub table_long : List ℤ → Bool
table_long t = eqb (length t) 256

unfoldable pub list_long : Day → List ℤ → Bool
list_long d xs = eqb (length xs) (users d)

-- what scratch is enough
unfoldable pub scratch_long : Day → List ℕ → Bool
scratch_long d s = eqb (length s) (users d)

-- the lists of the four amounts
unfoldable pub amounts_long : Day → Hour → Bool
amounts_long d g = list_long d g.entry && (list_long d g.exit && (list_long d g.title && list_long d g.pooling))

unfoldable pub hour_long : Day → List ℤ → Hour → Bool
hour_long d t g = table_long t && (amounts_long d g && (list_long d g.quantity && (list_long d g.money && scratch_long d g.scratch)))

-- document 02, of the judge: "3 also for that list; no money list or scratch is lent"
unfoldable pub judge_long : Day → List ℤ → Hour → List ℤ → Bool
judge_long d t g qs = table_long t && (amounts_long d g && list_long d qs)

unfoldable pub closing_long : Day → List ℤ → Closing → Bool
closing_long d t g = table_long t && (list_long d g.quantity && list_long d g.money)

-- ---- 4, "zone not 0 or 1", is `zone_fit`

-- ---- 5: "zone closed"
unfoldable pub zone_open : ℤ → Day → Bool
zone_open zone d = not (is_closed zone d)

-- ---- 6: "hour is not hours done plus 1, or above 24; at closing, hours done below 24"
unfoldable pub hour_next : Day → HourTerms → Bool
hour_next d k = equal k.hour (hours_done k.zone d +ℤ pos 1) && le_z k.hour (hours_of_day d)

unfoldable pub all_done : Day → ClosingTerms → Bool
all_done d k = le_z (hours_of_day d) (hours_done k.zone d)

-- ---- 7: "table holds a position outside its range,
unfoldable pub positions_fit : List ℤ → Bool
positions_fit t = every position_fit t

-- a non-zero place at or beyond the user count in either zone,
unfoldable pub beyond_zero : ℤ → Day → List ℤ → Bool
beyond_zero zone d t = every is_zero (drop (users d) (part zone t))

-- or a non-zero place in a zone that is closed or has no hours done"
unfoldable pub idle_zero : ℤ → Day → List ℤ → Bool
idle_zero zone d t = not (is_closed zone d || is_zero (hours_done zone d)) || every is_zero (part zone t)

unfoldable pub table_fit : Day → List ℤ → Bool
table_fit d t = positions_fit t && ((beyond_zero (pos 0) d t && beyond_zero (pos 1) d t) && (idle_zero (pos 0) d t && idle_zero (pos 1) d t))

-- ---- 8: "threshold or price out of range; month not 1 to 12" (the month is `month_fit`)
unfoldable pub prices_fit : ℤ → ℤ → Bool
prices_fit excess_price shortfall_price = price_fit excess_price && price_fit shortfall_price

unfoldable pub terms_fit : HourTerms → Bool
terms_fit k = (upper_fit k.upper && lower_fit k.lower) && prices_fit k.excess_price k.shortfall_price

-- ---- 9: "an amount out of range"
unfoldable pub amounts_fit : Hour → Bool
amounts_fit g = every entry_fit g.entry && (every exit_fit g.exit && (every title_fit g.title && every pooling_fit g.pooling))

-- ---- 10: "pooling amounts do not add to zero"
unfoldable pub pooling_adds : Hour → Bool
pooling_adds g = is_zero (sum_ℤ g.pooling)

-- ---- 11: "a position before settlement out of range"
unfoldable pub before_fit : Day → List ℤ → Hour → Bool
before_fit d t g = every position_fit (before d t g)

-- ---- 25: document 02: "if a total would pass the bound": one of the call's zone, with what the call sells and buys
unfoldable pub totals_bounded : ℤ → Sums → Day → Bool
totals_bounded zone s d = le_z (total_sold zone d +ℤ s.sold) (pos total_most) && le_z (total_bought zone d +ℤ s.bought) (pos total_most)

-- ---- the first cause of each call, and `Ok tt` for none

-- "Opening uses 1 and 3": 1 is "user count not 1 to 128"; document 02: "21 at opening, after 1 and before 3, if the length is none of these"
unfoldable pub open_cause : ℤ → ℤ → List ℤ → Result Unit Cause
open_cause n len t =
    unless (users_fit n) cause.Users
    then unless (length_fit len) cause.DayLength
    then unless (table_long t) cause.Lengths

-- "thresholds 4 and 8"
unfoldable pub thresholds_cause : ℤ → ℤ → Result Unit Cause
thresholds_cause month zone = unless (zone_fit zone) cause.Zone then unless (month_fit month) cause.Terms

-- of what an hour is told, 4 to 11
unfoldable pub inputs_cause : Day → List ℤ → Hour → Result Unit Cause
inputs_cause d t g =
    unless (zone_fit g.terms.zone) cause.Zone
    then unless (zone_open g.terms.zone d) cause.Closed
    then unless (hour_next d g.terms) cause.Hour
    then unless (table_fit d t) cause.Table
    then unless (terms_fit g.terms) cause.Terms
    then unless (amounts_fit g) cause.Amounts
    then unless (pooling_adds g) cause.Pooling
    then unless (before_fit d t g) cause.Positions

-- "an hour 2 to 11"; document 02: "25, last of all causes of an hour, a preview and a closing"
unfoldable pub hour_cause : Day → List ℤ → Hour → Result Unit Cause
hour_cause d t g =
    unless (day_fit d) cause.Record
    then unless (hour_long d t g) cause.Lengths
    then inputs_cause d t g
    then unless (totals_bounded g.terms.zone (hour_sums d t g) d) cause.Totals

-- a preview of an hour, with a list lent for the positions after; document 02: "The same causes apply in the same order, and cause 3 covers the new list." (2 stands before, since the
-- record says how many users there are.)
unfoldable pub preview_cause : Day → List ℤ → Hour → List ℤ → Result Unit Cause
preview_cause d t g lent =
    unless (day_fit d) cause.Record
    then unless (list_long d lent) cause.Lengths
    then hour_cause d t g

-- the judge of an operator's quantities: "Causes 2 to 11 come first, 3 also for that list" (22 to 24, which come then, are in specs/Judging.antt)
unfoldable pub judge_inputs_cause : Day → List ℤ → Hour → List ℤ → Result Unit Cause
judge_inputs_cause d t g qs =
    unless (day_fit d) cause.Record
    then unless (judge_long d t g qs) cause.Lengths
    then inputs_cause d t g

-- "closing 2 to 8", and 25
unfoldable pub closing_cause : Day → List ℤ → Closing → Result Unit Cause
closing_cause d t g =
    unless (day_fit d) cause.Record
    then unless (closing_long d t g) cause.Lengths
    then unless (zone_fit g.terms.zone) cause.Zone
    then unless (zone_open g.terms.zone d) cause.Closed
    then unless (all_done d g.terms) cause.Hour
    then unless (table_fit d t) cause.Table
    then unless (prices_fit g.terms.excess_price g.terms.shortfall_price) cause.Terms
    then unless (totals_bounded g.terms.zone (closing_sums d t g) d) cause.Totals

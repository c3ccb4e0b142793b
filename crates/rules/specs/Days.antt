-- "The table and the day record" of document 01, with the day's length and the totals of document 02. Assumes nothing.
use Rattle.std.specs.Prelude.{Bool, true, false, cond, List, ◌++◌, ℕ, ◌+◌, ℤ, pos, ◌+ℤ◌, length, get_or, take, drop}
use Rattle.integers.specs.Ranges.{is_zero, natural}
use Rattle.rules.specs.declared.Day.{Day}
use Rattle.rules.specs.declared.Sums.{Sums}
use Rattle.rules.specs.declared.ZoneDay.{ZoneDay}

-- ---- the record

-- the user count, as a number of places
unfoldable pub users : Day → ℕ
users d = natural d.users

-- "A Gas Day has 24 hours.", and document 02: "Opening must be told 23, 24 or 25 and the day record keeps it."
unfoldable pub hours_of_day : Day → ℤ
hours_of_day d = d.length

-- "for each zone, the hours done (0 to 24) and whether it is closed": 0 is H, 1 is L
unfoldable pub zone_day : ℤ → Day → ZoneDay
zone_day zone d = cond (is_zero zone) d.h d.l

unfoldable pub hours_done : ℤ → Day → ℤ
hours_done zone d = (zone_day zone d).hours

unfoldable pub is_closed : ℤ → Day → Bool
is_closed zone d = (zone_day zone d).closed

-- document 02: "how much was sold and bought so far. The record shall hold both, per zone, as sizes in kWh, closing included."
unfoldable pub total_sold : ℤ → Day → ℤ
total_sold zone d = (zone_day zone d).sold

unfoldable pub total_bought : ℤ → Day → ℤ
total_bought zone d = (zone_day zone d).bought

-- the record with one zone's part changed, and otherwise the same
unfoldable pub with_zone_day : ℤ → (ZoneDay → ZoneDay) → Day → Day
with_zone_day zone f d =
    cond (is_zero zone)
    (record { users = d.users; length = d.length; h = f d.h; l = d.l })
    (record { users = d.users; length = d.length; h = d.h; l = f d.l })

-- opening answers "a record with no hours done and no zone closed", of so many users and of the length that it was told, in which nothing is sold or bought yet
abbrev pub new_zone_day : ZoneDay
new_zone_day = record { hours = pos 0; closed = false; sold = pos 0; bought = pos 0 }

unfoldable pub new_day : ℤ → ℤ → Day
new_day n len = record { users = n; length = len; h = new_zone_day; l = new_zone_day }

-- an hour: "The record has one hour more for that zone and is otherwise the same", but that the totals have its two sums more
unfoldable pub hour_more : Sums → ZoneDay → ZoneDay
hour_more s z = record { hours = z.hours +ℤ pos 1; closed = z.closed; sold = z.sold +ℤ s.sold; bought = z.bought +ℤ s.bought }

unfoldable pub day_after_hour : ℤ → Sums → Day → Day
day_after_hour zone s d = with_zone_day zone (hour_more s) d

-- a closing: "the zone is marked closed", and the totals have its two sums more
unfoldable pub closed_now : Sums → ZoneDay → ZoneDay
closed_now s z = record { hours = z.hours; closed = true; sold = z.sold +ℤ s.sold; bought = z.bought +ℤ s.bought }

unfoldable pub day_after_closing : ℤ → Sums → Day → Day
day_after_closing zone s d = with_zone_day zone (closed_now s) d

-- ---- the table: "256 places: 128 for the H zone, then 128 for the L zone"

unfoldable pub first_place : ℤ → ℕ
first_place zone = cond (is_zero zone) 0 128

-- a zone's part of the table
unfoldable pub part : ℤ → List ℤ → List ℤ
part zone t = take 128 (drop (first_place zone) t)

-- a user's place in a zone's part
unfoldable pub place : ℤ → ℕ → List ℤ → ℤ
place zone user t = get_or (part zone t) user (pos 0)

-- the table with a zone's part changed; it "leaves the other part untouched"
unfoldable pub with_part : ℤ → (List ℤ → List ℤ) → List ℤ → List ℤ
with_part zone f t = take (first_place zone) t ++ (f (part zone t) ++ drop (first_place zone + 128) t)

-- a part with its first places replaced by the users' positions
unfoldable pub onto : List ℤ → List ℤ → List ℤ
onto positions p = positions ++ drop (length positions) p

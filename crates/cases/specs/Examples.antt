-- A whole day of each length with refused calls in it, so that the theorems on histories speak of something; rule 4 among twelve users; the lower defaults; lists of quantities, judged; and
-- totals at their bound. Assumes nothing.
use Rattle.std.specs.Prelude.{◌≡◌, true, false, Ok, List, [], ◌∷◌, ◌++◌, map, ℕ, ℤ, zero, suc, ◌+◌, ◌-◌, ◌*◌, pos, neg_ℤ, replicate}
use Rattle.largest_remainder.specs.Rule.{settled}
use Rattle.rules.specs.declared.Day.{Day}
use Rattle.rules.specs.declared.ZoneDay.{ZoneDay}
use Rattle.rules.specs.Limits.{position_most, total_most, price_most}
use Rattle.rules.specs.Days.{new_zone_day, new_day}
use Rattle.rules.specs.Thresholds.{lower_default}
use Rattle.rules.specs.Hours.{Hour, Closing}
use Rattle.rules.specs.Answers.{open_answer, hour_answer, hour_number, hour_day, preview_answer, closing_answer, closing_number}
use Rattle.rules.specs.Judging.{judge_answer, judge_number}
use Rattle.rules.specs.History.{State, Call, hour, closing, opened, step, run, first_sum, second_sum}
use Rattle.cases.specs.Cases.{cases_length, neg, opened as case_opened, terms_of, moved, case_a}

-- two users of either zone, with title transfers of 5 and -2 kWh in each hour and an upper threshold of 4
unfoldable pub example_hour : ℕ → ℕ → Hour
example_hour zone h = record {
  terms = record { zone = pos zone; hour = pos h; upper = pos 4; lower = pos 0; excess_price = pos 0; shortfall_price = pos 0 };
  entry = replicate 2 (pos 0);
  exit = replicate 2 (pos 0);
  title = pos 5 ∷ neg_ℤ (pos 2) ∷ [];
  pooling = replicate 2 (pos 0);
  quantity = replicate 2 (pos 9);
  money = replicate 2 (pos 9);
  scratch = replicate 2 9;
}

unfoldable pub example_closing : ℕ → Closing
example_closing zone = record {
  terms = record { zone = pos zone; excess_price = pos 1; shortfall_price = pos 1 };
  quantity = replicate 2 (pos 9);
  money = replicate 2 (pos 9);
}

unfoldable pub hours_from : ℕ → ℕ → ℕ → List Call
hours_from zone zero h = []
hours_from zone (suc n) h = hour (example_hour zone h) ∷ hours_from zone n (suc h)

-- a zone of a day of n hours: hour 2 before hour 1, and a closing at once; then all hours but the last, and a closing one hour early; then the last hour, one more, and the closing
unfoldable pub zone_calls : ℕ → ℕ → List Call
zone_calls n zone =
    hour (example_hour zone 2) ∷ closing (example_closing zone)
    ∷ hours_from zone (n - 1) 1 ++ (closing (example_closing zone) ∷ hour (example_hour zone n) ∷ hour (example_hour zone (n + 1)) ∷ closing (example_closing zone) ∷ [])

-- what they answer: every hour of the day is accepted, and what comes too early or too late is refused by 6
unfoldable pub zone_causes : ℕ → List ℕ
zone_causes n = 6 ∷ 6 ∷ replicate (n - 1) 0 ++ (6 ∷ 0 ∷ 6 ∷ 0 ∷ [])

unfoldable pub whole_day : ℕ → List Call
whole_day n = zone_calls n 0 ++ zone_calls n 1

unfoldable pub start : ℕ → State
start n = opened (new_day (pos 2) (pos n)) (pos 2) (pos n) (replicate 256 (pos 9))

-- the cause that each call of a list answers
unfoldable pub causes : State → List Call → List ℕ
causes s [] = []
causes s (hour g ∷ calls) = hour_number (hour_answer s.day s.table g) ∷ causes (step s (hour g)) calls
causes s (closing g ∷ calls) = closing_number (closing_answer s.day s.table g) ∷ causes (step s (closing g)) calls

-- a zone at the day's end: all of the first user's 5 kWh an hour were sold, at the closing the last of them, and all of the other's 2 kWh bought there
abbrev pub example_zone : ℕ → ZoneDay
example_zone n = record { hours = pos n; closed = true; sold = pos (n * 5); bought = pos (n * 2) }

-- the day is opened, its calls answer so, and at its end both zones have n hours done and are closed; of the L zone's calls, the first user's n times 5 kWh are all settled
pub record WholeDay (n : ℕ) : Type 0 where
  pub begins : open_answer (pos 2) (pos n) (replicate 256 (pos 9)) ≡ Ok (new_day (pos 2) (pos n))
  pub answers : causes (start n) (whole_day n) ≡ zone_causes n ++ zone_causes n
  pub ends :
      (run (start n) (whole_day n)).day
      ≡ record { users = pos 2; length = pos n; h = example_zone n; l = example_zone n }
  pub first_adds : first_sum (pos 1) 0 (start n) (zone_calls n 1) ≡ pos (n * 5)
  pub second_adds : second_sum (pos 1) 0 (start n) (zone_calls n 1) ≡ pos (n * 5)

-- "23, 24 or 25"
abbrev pub WholeDays : Type 0
WholeDays = WholeDay 23 × WholeDay 24 × WholeDay 25

-- 31 kWh among twelve users: four are spare, which go to the fractions 35/61 (twice) and 34/61, and of two with 33/61 to the lower place; a user of size 0 gets nothing
abbrev pub TwelveUsers : Type 0
TwelveUsers = settled (7 ∷ 0 ∷ 3 ∷ 9 ∷ 9 ∷ 1 ∷ 0 ∷ 12 ∷ 5 ∷ 5 ∷ 2 ∷ 8 ∷ []) 31 ≡ 4 ∷ 0 ∷ 1 ∷ 5 ∷ 5 ∷ 0 ∷ 0 ∷ 6 ∷ 3 ∷ 2 ∷ 1 ∷ 4 ∷ []

-- the lower defaults of January, April, July and December
abbrev pub Defaults : Type 0
Defaults =
    (map (λ month. lower_default (pos month) (pos 0)) (1 ∷ 4 ∷ 7 ∷ 12 ∷ []) ≡ map (λ n. neg_ℤ (pos n)) (22_000_000 ∷ 25_000_000 ∷ 30_000_000 ∷ 22_000_000 ∷ []))
    × (map (λ month. lower_default (pos month) (pos 1)) (1 ∷ 4 ∷ 7 ∷ 12 ∷ []) ≡ map (λ n. neg_ℤ (pos n)) (13_000_000 ∷ 13_000_000 ∷ 16_000_000 ∷ 13_000_000 ∷ []))

-- ---- the judge; document 02: "Operators round in their own ways and may still be right."

-- the cause of quantities, 0 for none, in the first hour of a day of n users
unfoldable pub judged : ℕ → Hour → List ℤ → ℕ
judged n g qs = judge_number (judge_answer (case_opened n).day (case_opened n).table g qs)

-- positions 4 and 2 with an upper threshold of 3: an excess of 3, of which the exact shares are 2 and 1
unfoldable pub whole_shares : Hour
whole_shares = moved (pos 4 ∷ pos 2 ∷ []) (terms_of 1 (pos 3) (pos 0) (pos 0))

-- as case C: a shortfall of 2, of which each share is 2/3
unfoldable pub short_shares : Hour
short_shares = moved (replicate 3 (neg 1)) (terms_of 1 (pos 0) (neg 1) (pos 0))

-- as case D: an hour within its thresholds
unfoldable pub within_thresholds : Hour
within_thresholds = moved (pos 22_000_000 ∷ []) (terms_of 1 (pos 22_000_000) (pos 0) (pos 0))

pub record JudgedLists : Type 0 where
  -- case A's exact shares are 3,333,333 1/3 and 1,666,666 2/3: our rounding, and another one
  pub case_a_accepted :
      map (judged 3 case_a) ((pos 3_333_333 ∷ pos 1_666_667 ∷ pos 0 ∷ []) ∷ (pos 3_333_334 ∷ pos 1_666_666 ∷ pos 0 ∷ []) ∷ []) ≡ 0 ∷ 0 ∷ []
  -- "22 if a user who did not cause has a quantity or a causer's has the wrong sign", though the sum is right
  pub case_a_signs :
      map (judged 3 case_a) ((pos 3_333_334 ∷ pos 1_666_667 ∷ neg 1 ∷ []) ∷ (pos 6_666_667 ∷ neg 1_666_667 ∷ pos 0 ∷ []) ∷ []) ≡ 22 ∷ 22 ∷ []
  -- "then 23 if one is 1 kWh or more off": 1 1/3 less and more, the sum being right
  pub case_a_shares : judged 3 case_a (pos 3_333_332 ∷ pos 1_666_668 ∷ pos 0 ∷ []) ≡ 23
  -- "then 24 if the sum is wrong": both rounded down, and both rounded up
  pub case_a_sums :
      map (judged 3 case_a) ((pos 3_333_333 ∷ pos 1_666_666 ∷ pos 0 ∷ []) ∷ (pos 3_333_334 ∷ pos 1_666_667 ∷ pos 0 ∷ []) ∷ []) ≡ 24 ∷ 24 ∷ []
  -- exactly 1 off is 23
  pub one_off : map (judged 2 whole_shares) ((pos 2 ∷ pos 1 ∷ []) ∷ (pos 3 ∷ pos 0 ∷ []) ∷ (pos 1 ∷ pos 2 ∷ []) ∷ []) ≡ 0 ∷ 23 ∷ 23 ∷ []
  -- a causer with 0 has no wrong sign: in a shortfall whoever of three gets nothing
  pub shortfall_accepted :
      map (judged 3 short_shares) ((neg 1 ∷ neg 1 ∷ pos 0 ∷ []) ∷ (neg 1 ∷ pos 0 ∷ neg 1 ∷ []) ∷ (pos 0 ∷ neg 1 ∷ neg 1 ∷ []) ∷ []) ≡ 0 ∷ 0 ∷ 0 ∷ []
  -- 22 is looked at of all users before 23 of any, and 23 of all before 24
  pub in_turn :
      map (judged 3 short_shares) ((neg 9 ∷ neg 1 ∷ pos 1 ∷ []) ∷ (neg 1 ∷ neg 1 ∷ neg 2 ∷ []) ∷ (neg 1 ∷ neg 1 ∷ neg 1 ∷ []) ∷ []) ≡ 22 ∷ 23 ∷ 24 ∷ []
  -- within the thresholds nobody caused
  pub within_accepted : map (judged 1 within_thresholds) ((pos 0 ∷ []) ∷ (pos 1 ∷ []) ∷ (neg 1 ∷ []) ∷ []) ≡ 0 ∷ 22 ∷ 22 ∷ []
  -- the ends of 64 bits
  pub any_number :
      map (judged 2 whole_shares) ((pos 9_223_372_036_854_775_807 ∷ pos 1 ∷ []) ∷ (neg 9_223_372_036_854_775_808 ∷ pos 1 ∷ []) ∷ []) ≡ 23 ∷ 22 ∷ []
  -- the least of 64 bits with the right sign
  pub least : judged 3 short_shares (neg 9_223_372_036_854_775_808 ∷ neg 1 ∷ pos 0 ∷ []) ≡ 23
  -- "3 also for that list"
  pub long : map (judged 2 whole_shares) ((pos 2 ∷ []) ∷ (pos 2 ∷ pos 1 ∷ pos 0 ∷ []) ∷ []) ≡ 3 ∷ 3 ∷ []

-- ---- the bound of the totals

-- an altered record: one user, so many hours done in the H zone, so much sold and bought there
abbrev pub traded : ℕ → ℤ → ℤ → Day
traded hours sold bought =
    record { users = pos 1; length = cases_length; h = record { hours = pos hours; closed = false; sold = sold; bought = bought }; l = new_zone_day }

-- the bound, and so much less
abbrev pub most_less : ℕ → ℤ
most_less n = pos (total_most - n)

-- the table in which that user has a position
abbrev pub holding : ℤ → List ℤ
holding kwh = kwh ∷ replicate 255 (pos 0)

-- an hour that sells 2 kWh, and one that buys 2
unfoldable pub sells_2 : ℕ → Hour
sells_2 h = moved (pos 5 ∷ []) (terms_of h (pos 3) (pos 0) (pos 0))

unfoldable pub buys_2 : ℕ → Hour
buys_2 h = moved (neg 5 ∷ []) (terms_of h (pos 0) (neg 3) (pos 0))

unfoldable pub closes_at : ℤ → Closing
closes_at price = record { terms = record { zone = pos 0; excess_price = price; shortfall_price = pos 0 }; quantity = pos 9 ∷ []; money = pos 9 ∷ [] }

-- the cause of an hour on an empty table, and of a closing of one position, 0 for none
unfoldable pub settled_by : Hour → Day → ℕ
settled_by g d = hour_number (hour_answer d (holding (pos 0)) g)

unfoldable pub closed_by : ℤ → Day → ℕ
closed_by kwh d = closing_number (closing_answer d (holding kwh) (closes_at (pos 0)))

pub record TotalsAtTheBound : Type 0 where
  -- "25 .. if a total would pass the bound": with 1 kWh less than the hour sells, and not with as much
  pub hour_sold : map (λ n. settled_by (sells_2 2) (traded 1 (most_less n) (pos 0))) (3 ∷ 2 ∷ 1 ∷ 0 ∷ []) ≡ 0 ∷ 0 ∷ 25 ∷ 25 ∷ []
  pub hour_bought : map (λ n. settled_by (buys_2 2) (traded 1 (pos 0) (most_less n))) (3 ∷ 2 ∷ 1 ∷ 0 ∷ []) ≡ 0 ∷ 0 ∷ 25 ∷ 25 ∷ []
  pub reached : hour_day (hour_answer (traded 1 (most_less 2) (pos 7)) (holding (pos 0)) (sells_2 2)) ≡ traded 2 (most_less 0) (pos 7)
  -- what is not added to may be at the bound
  pub other_side :
      settled_by (sells_2 2) (traded 1 (pos 0) (most_less 0)) ∷ settled_by (buys_2 2) (traded 1 (most_less 0) (pos 0)) ∷ [] ≡ 0 ∷ 0 ∷ []
  pub other_zone :
      settled_by (sells_2 1) (record { users = pos 1; length = cases_length; h = new_zone_day; l = record { hours = pos 1; closed = false; sold = most_less 0; bought = most_less 0 } })
      ≡ 0
  -- a closing adds both of its sums
  pub closing_sold : map (λ n. closed_by (pos 2) (traded 24 (most_less n) (pos 0))) (2 ∷ 1 ∷ []) ≡ 0 ∷ 25 ∷ []
  pub closing_bought : map (λ n. closed_by (neg 2) (traded 24 (pos 0) (most_less n))) (2 ∷ 1 ∷ []) ≡ 0 ∷ 25 ∷ []
  -- "a preview" too, and the judge not
  pub previewed :
      map (λ n. hour_number (preview_answer (traded 1 (most_less n) (pos 0)) (holding (pos 0)) (sells_2 2) (pos 9 ∷ []))) (2 ∷ 1 ∷ []) ≡ 0 ∷ 25 ∷ []
  pub judged_past_it : judge_number (judge_answer (traded 1 (most_less 1) (pos 0)) (holding (pos 0)) (sells_2 2) (pos 2 ∷ [])) ≡ 0
  -- "last of all causes": after 11, and after 8
  pub after_11 : hour_number (hour_answer (traded 1 (most_less 1) (pos 0)) (holding (pos position_most)) (sells_2 2)) ≡ 11
  pub after_8 : closing_number (closing_answer (traded 24 (most_less 1) (pos 0)) (holding (pos 2)) (closes_at (pos (price_most + 1)))) ≡ 8
  -- "Cause 2 also covers a zone with no hours done whose totals are not zero,
  pub not_begun : map (settled_by (sells_2 1)) (traded 0 (pos 1) (pos 0) ∷ traded 0 (pos 0) (pos 1) ∷ traded 0 (pos 0) (pos 0) ∷ []) ≡ 2 ∷ 2 ∷ 0 ∷ []
  -- and a total below zero or above 332,800,000,000"
  pub below_zero : map (settled_by (sells_2 2)) (traded 1 (neg 1) (pos 0) ∷ traded 1 (pos 0) (neg 1) ∷ []) ≡ 2 ∷ 2 ∷ []
  pub above :
      map (settled_by (sells_2 2)) (traded 1 (pos (total_most + 1)) (pos 0) ∷ traded 1 (pos 0) (pos (total_most + 1)) ∷ traded 1 (pos 0) (pos total_most) ∷ [])
      ≡ 2 ∷ 2 ∷ 0 ∷ []

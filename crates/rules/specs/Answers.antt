-- What each call answers, and what every lent area holds afterwards, refused or accepted. (What the judge answers is in specs/Judging.antt.) Assumes nothing.
use Rattle.std.specs.Prelude.{List, Result, Ok, Err, ℕ, ℤ, pos, length, replicate}
use Rattle.rules.specs.declared.Cause.{Cause}
use Rattle.rules.specs.declared.Day.{Day}
use Rattle.rules.specs.declared.Refusal.{Refusal}
use Rattle.rules.specs.declared.Thresholds.{Thresholds}
use Rattle.rules.specs.declared.HourDone.{HourDone}
use Rattle.rules.specs.declared.ClosingDone.{ClosingDone}
use Rattle.rules.specs.Refusals.{number, ◌then◌, by_cause}
use Rattle.rules.specs.Days.{new_day, day_after_hour, day_after_closing, with_part, onto}
use Rattle.rules.specs.Thresholds.{upper_default, lower_default}
use Rattle.rules.specs.Hours.{Hour, Closing, before, standing}
use Rattle.rules.specs.Market.{after, moneys, outcome, sold, bought, hour_imbalance, hour_quantities, hour_sums, closing_sums}
use Rattle.rules.specs.Causes.{open_cause, thresholds_cause, hour_cause, preview_cause, closing_cause}

-- A refusal of an hour, a preview, the judge or a closing returns its cause and the record as it was given.
abbrev pub with_day : {A : Type 0} → Day → Result A Cause → Result A Refusal
with_day d (Ok a) = Ok a
with_day d (Err k) = Err (record { cause = k; day = d })

-- ---- opening: "sets all 256 places to zero and answers a record with no hours done and no zone closed"
unfoldable pub open_answer : ℤ → ℤ → List ℤ → Result Day Cause
open_answer n len t = open_cause n len t then Ok (new_day n len)

unfoldable pub open_table : ℤ → ℤ → List ℤ → List ℤ
open_table n len t = by_cause (open_cause n len t) (replicate 256 (pos 0)) t

-- ---- default thresholds
unfoldable pub thresholds_answer : ℤ → ℤ → Result Thresholds Cause
thresholds_answer month zone =
    thresholds_cause month zone
    then Ok (record { upper = upper_default month zone; lower = lower_default month zone })

-- ---- an hour
module _ (d : Day) (t : List ℤ) (g : Hour) where
  unfoldable pub hour_answer : Result HourDone Refusal
  hour_answer =
      with_day d (hour_cause d t g)
      then Ok (record { day = day_after_hour g.terms.zone (hour_sums d t g) d; outcome = outcome (hour_imbalance d t g) (before d t g) })

  -- "the users' places in the zone's part of the table get the positions after"
  unfoldable pub hour_table : List ℤ
  hour_table = by_cause (hour_cause d t g) (with_part g.terms.zone (onto (after (hour_imbalance d t g) (before d t g))) t) t

  -- "The quantity list and the money list get one number per user"
  unfoldable pub hour_quantity : List ℤ
  hour_quantity = by_cause (hour_cause d t g) (hour_quantities d t g) g.quantity

  unfoldable pub hour_money : List ℤ
  hour_money = by_cause (hour_cause d t g) (moneys g.terms.excess_price g.terms.shortfall_price (hour_quantities d t g)) g.money

  -- "The accepted call sets its scratch (one unsigned 64-bit place per user) to zero."
  unfoldable pub hour_scratch : List ℕ
  hour_scratch = by_cause (hour_cause d t g) (replicate (length g.scratch) 0) g.scratch

-- ---- a preview of an hour; document 02: "quantities, money and positions after it, with the table only lent for reading"
module _ (d : Day) (t : List ℤ) (g : Hour) (lent : List ℤ) where
  -- "the record comes back unchanged"
  unfoldable pub preview_answer : Result HourDone Refusal
  preview_answer =
      with_day d (preview_cause d t g lent)
      then Ok (record { day = d; outcome = outcome (hour_imbalance d t g) (before d t g) })

  unfoldable pub preview_quantity : List ℤ
  preview_quantity = by_cause (preview_cause d t g lent) (hour_quantities d t g) g.quantity

  unfoldable pub preview_money : List ℤ
  preview_money = by_cause (preview_cause d t g lent) (moneys g.terms.excess_price g.terms.shortfall_price (hour_quantities d t g)) g.money

  -- "the positions after go to a list of exactly the user count"
  unfoldable pub preview_after : List ℤ
  preview_after = by_cause (preview_cause d t g lent) (after (hour_imbalance d t g) (before d t g)) lent

  -- "Scratch is as for an hour"
  unfoldable pub preview_scratch : List ℕ
  preview_scratch = by_cause (preview_cause d t g lent) (replicate (length g.scratch) 0) g.scratch

-- ---- a closing
module _ (d : Day) (t : List ℤ) (g : Closing) where
  unfoldable pub closing_answer : Result ClosingDone Refusal
  closing_answer =
      with_day d (closing_cause d t g)
      then Ok (record { day = day_after_closing g.terms.zone (closing_sums d t g) d; sold = sold (standing d t g); bought = bought (standing d t g) })

  -- "The places become zero"
  unfoldable pub closing_table : List ℤ
  closing_table = by_cause (closing_cause d t g) (with_part g.terms.zone (λ p. replicate 128 (pos 0)) t) t

  unfoldable pub closing_quantity : List ℤ
  closing_quantity = by_cause (closing_cause d t g) (standing d t g) g.quantity

  unfoldable pub closing_money : List ℤ
  closing_money =
      by_cause (closing_cause d t g)
      (moneys g.terms.excess_price g.terms.shortfall_price (standing d t g))
      g.money

-- ---- the papers' number of an answer, 0 for no cause, and the record that it returns
abbrev pub number_by : {A E : Type 0} → (E → ℕ) → Result A E → ℕ
number_by of (Ok r) = 0
number_by of (Err e) = of e

unfoldable pub open_number : Result Day Cause → ℕ
open_number = number_by number

unfoldable pub thresholds_number : Result Thresholds Cause → ℕ
thresholds_number = number_by number

unfoldable pub hour_number : Result HourDone Refusal → ℕ
hour_number = number_by (λ r. number r.cause)

unfoldable pub hour_day : Result HourDone Refusal → Day
hour_day (Ok r) = r.day
hour_day (Err r) = r.day

unfoldable pub closing_number : Result ClosingDone Refusal → ℕ
closing_number = number_by (λ r. number r.cause)

unfoldable pub closing_day : Result ClosingDone Refusal → Day
closing_day (Ok r) = r.day
closing_day (Err r) = r.day

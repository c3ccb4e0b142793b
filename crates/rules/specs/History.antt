-- "Conservation and accuracy": a list of hours and closings on a day, each given the record that the last call returned and the table as it left it. Assumes nothing.
use Rattle.std.specs.Prelude.{Bool, false, cond, ◌&&◌, ◌||◌, List, [], ◌∷◌, ◌++◌, ℕ, eqb, ℤ, pos, ◌+ℤ◌, get_or}
use Rattle.integers.specs.Ranges.{equal}
use Rattle.rules.specs.declared.Day.{Day}
use Rattle.rules.specs.Hours.{Hour, Closing, amounts}
use Rattle.rules.specs.Answers.{open_table, hour_answer, hour_table, hour_quantity, closing_answer, closing_table, closing_quantity, hour_number, hour_day, closing_number, closing_day}

-- "each is given what its caller likes: zone, hour, lists, scratch, thresholds and prices, fit or unfit"
pub data Call : Type 0 where
  hour : Hour → Call
  closing : Closing → Call

pub record State : Type 0 where
  pub day : Day
  pub table : List ℤ

-- the record d that opening answered for n users and a day of this length, and the table as opening left it
unfoldable pub opened : Day → ℤ → ℤ → List ℤ → State
opened d n len t = record { day = d; table = open_table n len t }

unfoldable pub step : State → Call → State
step s (hour g) = record { day = hour_day (hour_answer s.day s.table g); table = hour_table s.day s.table g }
step s (closing g) = record { day = closing_day (closing_answer s.day s.table g); table = closing_table s.day s.table g }

unfoldable pub run : State → List Call → State
run s [] = s
run s (c ∷ cs) = run (step s c) cs

-- "A call is accepted if it answers no cause."
unfoldable pub hour_accepted : State → Hour → Bool
hour_accepted s g = eqb (hour_number (hour_answer s.day s.table g)) 0

unfoldable pub closing_accepted : State → Closing → Bool
closing_accepted s g = eqb (closing_number (closing_answer s.day s.table g)) 0

-- the record as the last call returned it, where each call of a list is given the record that the one before returned, but a table of its own, whatever this holds
unfoldable pub passed_on : Day → List (List ℤ × Call) → Day
passed_on d [] = d
passed_on d (c ∷ cs) = passed_on (step (record { day = d; table = c.0 }) c.1).day cs

module _ (zone : ℤ) (user : ℕ) where
  -- "An accepted hour of the zone adds the user's four amounts to the first
  unfoldable pub adds_first : State → Call → ℤ
  adds_first s (hour g) = cond (hour_accepted s g && equal g.terms.zone zone) (amounts g user) (pos 0)
  adds_first s (closing g) = pos 0

  -- and the quantity answered for the user to the second; an accepted closing of the zone adds the quantity answered for the user to the second"
  unfoldable pub adds_second : State → Call → ℤ
  adds_second s (hour g) = cond (hour_accepted s g && equal g.terms.zone zone) (get_or (hour_quantity s.day s.table g) user (pos 0)) (pos 0)
  adds_second s (closing g) = cond (closing_accepted s g && equal g.terms.zone zone) (get_or (closing_quantity s.day s.table g) user (pos 0)) (pos 0)

  -- "For each zone and user two unbounded sums start at 0."
  unfoldable pub first_sum : State → List Call → ℤ
  first_sum s [] = pos 0
  first_sum s (c ∷ cs) = adds_first s c +ℤ first_sum (step s c) cs

  unfoldable pub second_sum : State → List Call → ℤ
  second_sum s [] = pos 0
  second_sum s (c ∷ cs) = adds_second s c +ℤ second_sum (step s c) cs

module _ (zone : ℤ) where
  -- whether a closing of the zone was accepted in the list
  unfoldable pub closes_now : State → Call → Bool
  closes_now s (hour g) = false
  closes_now s (closing g) = closing_accepted s g && equal g.terms.zone zone

  unfoldable pub closes : State → List Call → Bool
  closes s [] = false
  closes s (c ∷ cs) = closes_now s c || closes (step s c) cs

  -- document 02: the "quantities answered since opening", of the zone: those of an accepted hour or closing of it, and of another call none
  unfoldable pub answered : State → Call → List ℤ
  answered s (hour g) = cond (hour_accepted s g && equal g.terms.zone zone) (hour_quantity s.day s.table g) []
  answered s (closing g) = cond (closing_accepted s g && equal g.terms.zone zone) (closing_quantity s.day s.table g) []

  -- those of all the list
  unfoldable pub all_answered : State → List Call → List ℤ
  all_answered s [] = []
  all_answered s (c ∷ cs) = answered s c ++ all_answered (step s c) cs

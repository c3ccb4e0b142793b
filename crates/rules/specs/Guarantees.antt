-- What is proved of the definitions, for every input: the opening, demands 2 and 3, the totals, rules 2 and 3, a preview, and the judge. Statements only; the proofs are in
-- proofs/Guarantees.antt, and the crate `certificate` asks for each. Assumes nothing.
use Rattle.std.specs.Prelude.{◌≡◌, Bool, true, false, cond, List, Result, Ok, Err, map, ◌↔◌, ◌⊎◌, ℕ, ◌+◌, ◌-◌, ◌*◌, ◌/◌, ◌%◌, ◌^◌, ◌<◌, eqb, ltb, ℤ, pos, nat_abs, ◌+ℤ◌, ◌-ℤ◌, length, get_or, take, replicate, ◌≤ℤ◌, ◌<ℤ◌}
use mathlib.Core.List.{zip_with}
use Rattle.integers.specs.Ranges.{natural}
use Rattle.integers.specs.Lists.{sum, sum_ℤ, count}
use Rattle.rules.specs.declared.Cause.TheVariants as cause
use Rattle.rules.specs.declared.Day.{Day}
use Rattle.rules.specs.declared.HourDone.{HourDone}
use Rattle.rules.specs.declared.Refusal.{Refusal}
use Rattle.rules.specs.declared.Marks.{Marks}
use Rattle.rules.specs.declared.Side.{Side}
use Rattle.rules.specs.declared.Side.TheVariants.{Excess, Shortfall}
use Rattle.rules.specs.declared.Outcome.{Outcome}
use Rattle.rules.specs.declared.Outcome.TheVariants.{Within, Settled}
use Rattle.rules.specs.Limits.{zone_fit, position_fit}
use Rattle.rules.specs.Days.{users, hours_of_day, hours_done, is_closed, total_sold, total_bought, part, place}
use Rattle.rules.specs.Hours.{Hour, Closing, inputs_of, before}
use Rattle.rules.specs.Refusals.{by_cause}
use Rattle.rules.specs.Causes.{day_fit, list_long, hour_long, judge_long, closing_long, zone_open, hour_next, all_done, table_fit, prices_fit, terms_fit, amounts_fit, pooling_adds, before_fit, totals_bounded, hour_cause}
use Rattle.rules.specs.Market.{Imbalance, total, caused, sizes, settled_sizes, signed, sold, bought, hour_imbalance, hour_sums, closing_sums}
use Rattle.rules.specs.Answers.{open_answer, open_table, hour_answer, hour_number, hour_table, hour_quantity, hour_money, hour_scratch, preview_answer, preview_quantity, preview_money, preview_after, preview_scratch, closing_answer, closing_number}
use Rattle.rules.specs.Judging.{judge_answer, judge_number}
use Rattle.rules.specs.History.{State, Call, opened, run, passed_on, first_sum, second_sum, closes, all_answered}

-- ---- the opening: "The Gas Day shall be shown to begin at zero, not supposed to."
abbrev pub BeginsAtZero : Type 0
BeginsAtZero =
    (n len : ℤ) (t : List ℤ) (d : Day) → open_answer n len t ≡ Ok d
    → (open_table n len t ≡ replicate 256 (pos 0)) × ((zone : ℤ) → hours_done zone d ≡ pos 0)

-- ---- the length: "Opening must be told 23, 24 or 25 and the day record keeps it."

-- A day that opening opened is of one of these lengths, and whatever is then called, its record keeps it.
abbrev pub LengthKept : Type 0
LengthKept =
    (n len : ℤ) (t : List ℤ) (d : Day) → open_answer n len t ≡ Ok d
    → ((len ≡ pos 23) ⊎ ((len ≡ pos 24) ⊎ (len ≡ pos 25)))
    × ((calls : List Call) → hours_of_day (run (opened d n len t) calls).day ≡ len)

-- ---- demand 2: "an hour or closing is accepted if and only if no listed cause exists"

-- each test of the causes 4 to 11 holds, which an hour and the judge have in common
pub record InputsFit (d : Day) (t : List ℤ) (g : Hour) : Type 0 where
  pub zone : zone_fit g.terms.zone ≡ true
  pub open' : zone_open g.terms.zone d ≡ true
  pub next : hour_next d g.terms ≡ true
  pub table : table_fit d t ≡ true
  pub terms : terms_fit g.terms ≡ true
  pub amounts : amounts_fit g ≡ true
  pub pooling : pooling_adds g ≡ true
  pub positions : before_fit d t g ≡ true

-- no cause of an hour exists: each test of the causes 2 to 11 and 25 holds
pub record HourFit (d : Day) (t : List ℤ) (g : Hour) : Type 0 where
  pub day : day_fit d ≡ true
  pub lengths : hour_long d t g ≡ true
  pub inputs : InputsFit d t g
  pub totals : totals_bounded g.terms.zone (hour_sums d t g) d ≡ true

-- no cause of a closing exists: each test of the causes 2 to 8 and 25 holds
pub record ClosingFit (d : Day) (t : List ℤ) (g : Closing) : Type 0 where
  pub day : day_fit d ≡ true
  pub lengths : closing_long d t g ≡ true
  pub zone : zone_fit g.terms.zone ≡ true
  pub open' : zone_open g.terms.zone d ≡ true
  pub done : all_done d g.terms ≡ true
  pub table : table_fit d t ≡ true
  pub prices : prices_fit g.terms.excess_price g.terms.shortfall_price ≡ true
  pub totals : totals_bounded g.terms.zone (closing_sums d t g) d ≡ true

abbrev pub AcceptedIfFit : Type 0
AcceptedIfFit =
    ((d : Day) (t : List ℤ) (g : Hour) → (hour_number (hour_answer d t g) ≡ 0) ↔ HourFit d t g)
    × ((d : Day) (t : List ℤ) (g : Closing) → (closing_number (closing_answer d t g) ≡ 0) ↔ ClosingFit d t g)

-- ---- demand 3: "no kilowatt-hour has appeared or vanished at the list's end"

-- On a day that opening opened, whatever is then called, for each zone and user: "At the end the first equals the second plus the user's place in the zone's part of the table." It is
-- "shown once for all lengths": of whatever length the opening was told.
abbrev pub Conservation : Type 0
Conservation =
    (n len : ℤ) (t : List ℤ) (d : Day) → open_answer n len t ≡ Ok d
    → (calls : List Call) (zone : ℤ) → zone_fit zone ≡ true → (user : ℕ) → user < natural n
    → first_sum zone user (opened d n len t) calls
    ≡ second_sum zone user (opened d n len t) calls +ℤ place zone user (run (opened d n len t) calls).table

-- ---- "a zone whose closing was accepted holds zero in every place"

-- From whatever record and table, at the end of a list in which a closing of the zone was accepted.
abbrev pub ClosedIsZero : Type 0
ClosedIsZero =
    (s : State) (calls : List Call) (zone : ℤ) → zone_fit zone ≡ true → closes zone s calls ≡ true
    → (p : ℕ) → p < 128 → place zone p (run s calls).table ≡ pos 0

-- "no zone closed" at the opening, and then "the zone is marked closed": on a day that opening opened, the record marks a zone closed exactly where its closing was accepted.
abbrev pub ClosedIsMarked : Type 0
ClosedIsMarked =
    (n len : ℤ) (t : List ℤ) (d : Day) → open_answer n len t ≡ Ok d
    → (calls : List Call) (zone : ℤ) → zone_fit zone ≡ true → is_closed zone (run (opened d n len t) calls).day ≡ closes zone (opened d n len t) calls

-- ---- the totals; document 02: "how much was sold and bought so far .. closing included"

-- "In a day carried as the conservation rule says, they equal the sums of the positive and of the negative quantities answered since opening." One claim about the list.
abbrev pub TotalsAreSums : Type 0
TotalsAreSums =
    (n len : ℤ) (t : List ℤ) (d : Day) → open_answer n len t ≡ Ok d
    → (calls : List Call) (zone : ℤ) → zone_fit zone ≡ true
    → (total_sold zone (run (opened d n len t) calls).day ≡ sold (all_answered zone (opened d n len t) calls))
    × (total_bought zone (run (opened d n len t) calls).day ≡ bought (all_answered zone (opened d n len t) calls))

-- No call that is given this record and this table is refused by the cause of this number, whatever else it is given.
pub record NeverBy (k : ℕ) (s : State) : Type 0 where
  pub hour : (g : Hour) → hour_number (hour_answer s.day s.table g) ≡ k → ⊥
  pub preview : (g : Hour) (lent : List ℤ) → hour_number (preview_answer s.day s.table g lent) ≡ k → ⊥
  pub judge : (g : Hour) (qs : List ℤ) → judge_number (judge_answer s.day s.table g qs) ≡ k → ⊥
  pub closing : (g : Closing) → closing_number (closing_answer s.day s.table g) ≡ k → ⊥

-- "Only an altered record can lead past that bound.": on a day that opening opened, record and table passed on as the calls left them, 25 is no call's cause; nor where the record alone is
-- passed on, whatever tables that call and those before it are given.
abbrev pub OnlyAlteredPasses : Type 0
OnlyAlteredPasses =
    (n len : ℤ) (t : List ℤ) (d : Day) → open_answer n len t ≡ Ok d
    → ((calls : List Call) → NeverBy 25 (run (opened d n len t) calls))
    × ((calls : List (List ℤ × Call)) (table : List ℤ) → NeverBy 25 (record { day = passed_on d calls; table = table }))

-- Nor is a day that opening opened, record and table passed on as the calls left them, turned away for its record (2) or for its table (7): those are always fit.
abbrev pub OwnDayFits : Type 0
OwnDayFits =
    (n len : ℤ) (t : List ℤ) (d : Day) → open_answer n len t ≡ Ok d
    → (calls : List Call) → NeverBy 2 (run (opened d n len t) calls) × NeverBy 7 (run (opened d n len t) calls)

-- ---- "Whatever record and table an hour is given, once it is accepted the market after it is neither above the upper nor below the lower of that hour's thresholds, a user who did
-- not cause has quantity 0, and each who did is settled by rules 4 and 5 of document 01, with a settled size less than 1 kWh from the exact share."

-- "that size times the sum differs from the product by less than the sum": of a position p and a quantity q, in an imbalance i; S is the sum of all causers' sizes
abbrev pub Near : Imbalance → ℕ → ℤ → ℤ → Type 0
Near i S p q = (nat_abs q * S < total i * nat_abs p + S) × (total i * nat_abs p < nat_abs q * S + S)

-- Of one user, whose position was p, whose quantity is q and whose position after is r.
pub record UserAccurate (i : Imbalance) (S : ℕ) (p q r : ℤ) : Type 0 where
  pub uncaused : caused i p ≡ false → q ≡ pos 0
  -- a sale in an excess, a purchase in a shortfall
  pub sign : q ≡ signed i (nat_abs q)
  -- "a settled size less than 1 kWh from the exact share"
  pub near : caused i p ≡ true → Near i S p q
  pub rest : r ≡ p -ℤ q
  -- "It may reach zero and never crosses it."
  pub not_below_zero : pos 0 ≤ℤ p → pos 0 ≤ℤ r
  pub not_above_zero : p ≤ℤ pos 0 → r ≤ℤ pos 0
  -- "A position, before or after settlement"
  pub in_range : position_fit r ≡ true

-- Of an hour with the positions ps before, the quantities qs and the positions rs after, whoever rounded.
pub record Kept (upper lower : ℤ) (i : Imbalance) (ps qs rs : List ℤ) : Type 0 where
  -- "The market after it is the sum of the positions after"
  pub not_above : sum_ℤ rs ≤ℤ upper
  pub not_below : lower ≤ℤ sum_ℤ rs
  pub each : (user : ℕ) → UserAccurate i (sum (sizes i ps)) (get_or ps user (pos 0)) (get_or qs user (pos 0)) (get_or rs user (pos 0))

-- The same, rounded by rule 4.
pub record Accurate (upper lower : ℤ) (i : Imbalance) (ps qs rs : List ℤ) : Type 0 where
  pub kept : Kept upper lower i ps qs rs
  -- the settled sizes add to the total
  pub adds_up : sum (map nat_abs qs) ≡ total i
  -- by rules 4 and 5
  pub by_rules : (user : ℕ) → user < length ps → get_or qs user (pos 0) ≡ signed i (get_or (settled_sizes i ps) user 0)

-- of any accepted hour, "in a list or alone"
abbrev pub Accuracy : Type 0
Accuracy =
    (d : Day) (t : List ℤ) (g : Hour) → hour_number (hour_answer d t g) ≡ 0
    → Accurate g.terms.upper g.terms.lower (hour_imbalance d t g)
    (before d t g) (hour_quantity d t g) (take (users d) (part g.terms.zone (hour_table d t g)))

-- ---- rule 2: "Above the upper threshold there is an excess: the difference. Below the lower one there is a shortfall: the difference, taken positive. At a threshold there is neither."

-- Of the outcome o of an hour whose market position is m.
pub record OutcomeTells (upper lower m : ℤ) (o : Outcome) : Type 0 where
  pub within : (o ≡ Within) ↔ ((lower ≤ℤ m) × (m ≤ℤ upper))
  pub excess : (total : ℤ) → ((marks : Marks) × (o ≡ Settled (Excess total) marks)) ↔ ((upper <ℤ m) × (total ≡ m -ℤ upper))
  pub shortfall : (total : ℤ) → ((marks : Marks) × (o ≡ Settled (Shortfall total) marks)) ↔ ((m <ℤ lower) × (total ≡ lower -ℤ m))

-- of any accepted hour: "The market position is the sum over all users."
abbrev pub OutcomeByThresholds : Type 0
OutcomeByThresholds =
    (d : Day) (t : List ℤ) (g : Hour) (d' : Day) (o : Outcome) → hour_answer d t g ≡ Ok (record { day = d'; outcome = o })
    → OutcomeTells g.terms.upper g.terms.lower (sum_ℤ (before d t g)) o

-- ---- rule 3: the marks answered are the causers, and "the number of marks is answered"

-- whether a place is marked: by its bit of its word
unfoldable pub marked : Marks → ℕ → Bool
marked m p = eqb (cond (ltb p 64) (m.first / 2 ^ p) (m.second / 2 ^ (p - 64)) % 2) 1

abbrev pub MarksAreCausers : Type 0
MarksAreCausers =
    (d : Day) (t : List ℤ) (g : Hour) (d' : Day) (side : Side) (m : Marks)
    → hour_answer d t g ≡ Ok (record { day = d'; outcome = Settled side m })
    → ((p : ℕ) → p < 128 → marked m p ≡ caused (hour_imbalance d t g) (get_or (before d t g) p (pos 0)))
    × (m.number ≡ count (caused (hour_imbalance d t g)) (before d t g))

-- ---- a preview; document 02: "The answer and lists are those that settling a copy would give, and the positions after go to a list of exactly the user count. The same causes apply in
-- the same order, and cause 3 covers the new list. Scratch is as for an hour, the record comes back unchanged"

-- the answer of an hour with the record that it was given
abbrev pub with_record : Day → Result HourDone Refusal → Result HourDone Refusal
with_record d (Ok done) = Ok (record { day = d; outcome = done.outcome })
with_record d (Err refusal) = Err refusal

-- With a list of the user count: the hour's answer, accepted or refused, with the record that was given, and what the hour leaves of its lists and scratch; where the hour is accepted, the
-- users' places of its zone in the table that it leaves, and else the list as it was lent.
pub record AsACopy (d : Day) (t : List ℤ) (g : Hour) (lent : List ℤ) : Type 0 where
  pub answer : preview_answer d t g lent ≡ with_record d (hour_answer d t g)
  pub quantity : preview_quantity d t g lent ≡ hour_quantity d t g
  pub money : preview_money d t g lent ≡ hour_money d t g
  pub scratch : preview_scratch d t g lent ≡ hour_scratch d t g
  pub after : preview_after d t g lent ≡ by_cause (hour_cause d t g) (take (users d) (part g.terms.zone (hour_table d t g))) lent

-- With a list of another length: refused, by 3 unless 2 applies, which comes before it; and everything is as it was lent.
pub record TurnedAway (d : Day) (t : List ℤ) (g : Hour) (lent : List ℤ) : Type 0 where
  pub by_2 : day_fit d ≡ false → preview_answer d t g lent ≡ Err (record { cause = cause.Record; day = d })
  pub by_3 : day_fit d ≡ true → preview_answer d t g lent ≡ Err (record { cause = cause.Lengths; day = d })
  pub quantity : preview_quantity d t g lent ≡ g.quantity
  pub money : preview_money d t g lent ≡ g.money
  pub scratch : preview_scratch d t g lent ≡ g.scratch
  pub after : preview_after d t g lent ≡ lent

abbrev pub AsSettlingACopy : Type 0
AsSettlingACopy =
    (d : Day) (t : List ℤ) (g : Hour) (lent : List ℤ)
    → (list_long d lent ≡ true → AsACopy d t g lent) × (list_long d lent ≡ false → TurnedAway d t g lent)

-- ---- the judge; document 02: "accept exactly when the quantities add to the excess (or to minus the shortfall, or to zero if there is neither), only causers have any, with the right sign,
-- and each is less than 1 kWh from the exact share"

-- none of the causes 2 to 11 exists, "3 also for that list"
pub record JudgeFit (d : Day) (t : List ℤ) (g : Hour) (qs : List ℤ) : Type 0 where
  pub day : day_fit d ≡ true
  pub lengths : judge_long d t g qs ≡ true
  pub inputs : InputsFit d t g

-- Of an imbalance i of users with the positions ps, and their quantities qs.
pub record Right (i : Imbalance) (ps qs : List ℤ) : Type 0 where
  -- "the quantities add to the excess (or to minus the shortfall, or to zero if there is neither)"
  pub adds_up : sum_ℤ qs ≡ signed i (total i)
  -- "only causers have any"
  pub only_causers : (user : ℕ) → caused i (get_or ps user (pos 0)) ≡ false → get_or qs user (pos 0) ≡ pos 0
  -- "with the right sign"
  pub sign : (user : ℕ) → get_or qs user (pos 0) ≡ signed i (nat_abs (get_or qs user (pos 0)))
  -- "and each is less than 1 kWh from the exact share"
  pub near : (user : ℕ) → caused i (get_or ps user (pos 0)) ≡ true → Near i (sum (sizes i ps)) (get_or ps user (pos 0)) (get_or qs user (pos 0))

abbrev pub AcceptedIfRight : Type 0
AcceptedIfRight =
    (d : Day) (t : List ℤ) (g : Hour) (qs : List ℤ)
    → (judge_number (judge_answer d t g qs) ≡ 0) ↔ (JudgeFit d t g qs × Right (hour_imbalance d t g) (before d t g) qs)

-- "Our own quantities are accepted": of every accepted hour
abbrev pub OwnAccepted : Type 0
OwnAccepted =
    (d : Day) (t : List ℤ) (g : Hour) → hour_number (hour_answer d t g) ≡ 0 → judge_number (judge_answer d t (inputs_of g) (hour_quantity d t g)) ≡ 0

-- "an accepted list keeps the market within its thresholds and lets no position cross zero": all that an hour of ours keeps (`Kept`); document 01: "The position after is the position before
-- minus the quantity."
abbrev pub AcceptedKeeps : Type 0
AcceptedKeeps =
    (d : Day) (t : List ℤ) (g : Hour) (qs : List ℤ) → judge_number (judge_answer d t g qs) ≡ 0
    → Kept g.terms.upper g.terms.lower (hour_imbalance d t g) (before d t g) qs (zip_with ◌-ℤ◌ (before d t g) qs)

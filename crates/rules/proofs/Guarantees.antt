-- The theorems of specs/Guarantees.antt. Assumes nothing.
use mathlib.Core.Path.{◌≡◌, refl, sym, ap, ◌∙◌, subst}
use mathlib.Core.Bool.{Bool, true, false, ◌||◌}
use mathlib.Core.List.{List}
use Prim.Native.Nat.{ℕ, ◌≤◌, ◌<◌}
use native.Mathlib.Omega.{arith}
use lib.IntN.{ℤ, pos, ◌+ℤ◌, +ℤ_idl, +ℤ_idr}
use lib.ListN.{length, get_or, length-map, get_or-map}
use Rattle.std.specs.Prelude.{Ok}
use Rattle.integers.specs.Lists.{sum_ℤ}
use Rattle.integers.proofs.Linear.{not_both}
use Rattle.integers.proofs.Counts.{count_map}
use Rattle.rules.specs.declared.Day.{Day}
use Rattle.rules.specs.declared.HourDone.{HourDone}
use Rattle.rules.specs.declared.Marks.{Marks}
use Rattle.rules.specs.declared.Side.{Side}
use Rattle.rules.specs.declared.Outcome.{Outcome}
use Rattle.rules.specs.declared.Outcome.TheVariants.{Settled}
use Rattle.rules.specs.Days.{users, hours_of_day, zone_day, is_closed, total_sold, total_bought, new_day}
use Rattle.rules.specs.Hours.{Hour, before}
use Rattle.rules.specs.Refusals.{number}
use Rattle.rules.specs.Market.{Imbalance, within, excess, shortfall, imbalance, caused, causers, marks, outcome, sold, bought, hour_imbalance}
use Rattle.rules.specs.Causes.{hour_cause, before_fit}
use Rattle.rules.specs.Answers.{open_answer, hour_answer, hour_quantity, number_by}
use Rattle.rules.specs.Judging.{judge_number}
use Rattle.rules.specs.History.{Call, opened, run, passed_on, first_sum, closes, all_answered}
use Rattle.rules.specs.Guarantees.{BeginsAtZero, LengthKept, AcceptedIfFit, Conservation, ClosedIsZero, ClosedIsMarked, TotalsAreSums, NeverBy, OnlyAlteredPasses, OwnDayFits, Accuracy, OutcomeByThresholds, MarksAreCausers, AsSettlingACopy, AcceptedIfRight, OwnAccepted, AcceptedKeeps}
use Rattle.rules.proofs.Refusing.{by_none, with_day_none}
use Rattle.rules.proofs.Zones.{zone_of_lem}
use Rattle.rules.proofs.Accepted.{length_of, hour_fit_lem, fit_hour, hour_sound, hour_number_lem, hour_none, closing_fit, fit_closing, closing_number_lem, closing_none, thresholds_sound}
use Rattle.rules.proofs.Marking.{marked_at, marks_number}
use Rattle.rules.proofs.Settling.{view, kept, settles}
use Rattle.rules.proofs.Telling.{tells}
use Rattle.rules.proofs.Previewing.{as_a_copy, turned_away}
use Rattle.rules.proofs.Judging.{judged_long, hour_view, accepted_right, right_accepted, judged_read, own_judged}
use Rattle.rules.proofs.Carrying.{added_run}
use Rattle.rules.proofs.Owning.{Own, own_table, own_passed_on, own_run, own_day_opened, own_opened}
use Rattle.rules.proofs.Sparing.{never}
use Rattle.rules.proofs.Conserving.{length_before, positions_left, length_run, balance, opened_by, open_users, open_length, open_table_lem, open_zero, new_hours, new_open, new_sold, new_bought, marked-run, closed_zero}

pub begins_at_zero : BeginsAtZero
begins_at_zero n len t d e = let (k, q) = opened_by n len t d e in (open_table_lem n len t k, λ zone. rw q (new_hours zone n len))

pub length_kept : LengthKept
unfolding opened new_day hours_of_day
length_kept n len t d e =
    let (k, q) = opened_by n len t d e in
    (length_of len (open_length n len t k), λ calls. length_run (opened d n len t) calls ∙ ap hours_of_day q)

pub accepted_if_fit : AcceptedIfFit
accepted_if_fit = (
  λ d t g. (λ e. hour_fit_lem d t g (hour_none d t g e), λ f. hour_number_lem d t g ∙ ap (number_by number) (fit_hour d t g f)),
  λ d t g. (λ e. closing_fit d t g (closing_none d t g e), λ f. closing_number_lem d t g ∙ ap (number_by number) (fit_closing d t g f)),
)

pub conservation : Conservation
unfolding opened users new_day
conservation n len t d e calls zone z user h =
    let (k, q) = opened_by n len t d e in
    let zoned = zone_of_lem zone z in
    let few : user < users d = subst (λ (d : Day). user < users d) (sym q) h in
    sym (+ℤ_idr (first_sum zone user (opened d n len t) calls))
    ∙ ap (λ (p : ℤ). first_sum zone user (opened d n len t) calls +ℤ p) (sym (open_zero n len t k zoned user (omega (arith, open_users n len t k))))
    ∙ balance zone user zoned (opened d n len t) calls few

pub closed_is_zero : ClosedIsZero
closed_is_zero s calls zone z c p h = closed_zero zone (zone_of_lem zone z) s calls c p h

-- every day that opening opened is one of our own, whatever is then called
own : (n len : ℤ) (t : List ℤ) (d : Day) → open_answer n len t ≡ Ok d → (calls : List Call) → Own (run (opened d n len t) calls)
own n len t d e calls =
    let (k, q) = opened_by n len t d e in
    own_run (opened d n len t) calls (rw q (own_opened n len t k))

pub closed_is_marked : ClosedIsMarked
unfolding opened new_day is_closed zone_day
closed_is_marked n len t d e calls zone z =
    marked-run zone (zone_of_lem zone z) (opened d n len t) calls
    ∙ ap (λ (b : Bool). b || closes zone (opened d n len t) calls) (ap (is_closed zone) (opened_by n len t d e).1 ∙ new_open zone n len)

-- ---- the totals

pub totals_are_sums : TotalsAreSums
unfolding opened total_sold total_bought
totals_are_sums n len t d e calls zone z =
    let (k, q) = opened_by n len t d e in
    let added = added_run zone (zone_of_lem zone z) (opened d n len t) calls in
    let all = all_answered zone (opened d n len t) calls in (
      added.sold ∙ ap (λ (x : ℤ). x +ℤ sold all) (ap (total_sold zone) q ∙ new_sold zone n len) ∙ +ℤ_idl (sold all),
      added.bought ∙ ap (λ (x : ℤ). x +ℤ bought all) (ap (total_bought zone) q ∙ new_bought zone n len) ∙ +ℤ_idl (bought all),
    )

pub only_altered_passes : OnlyAlteredPasses
only_altered_passes n len t d e = (passed, altered)
  where
    -- of a table that may be any nothing is told
    told : {A : Type 0} → false ≡ true → A
    told f = not_both (sym f)

    passed : (calls : List Call) → NeverBy 25 (run (opened d n len t) calls)
    passed calls = never false (own n len t d e calls).day' _ told 25 refl

    altered : (calls : List (List ℤ × Call)) (table : List ℤ) → NeverBy 25 (record { day = passed_on d calls; table = table })
    altered calls table =
        let (k, q) = opened_by n len t d e in
        never false (own_passed_on d calls (rw q (own_day_opened n len t k))) table told 25 refl

pub own_day_fits : OwnDayFits
own_day_fits n len t d e calls =
    let o = own n len t d e calls in
    let fits = never true o.day' _ (λ _. own_table o) in
    (fits 2 refl, fits 7 refl)

pub accuracy : Accuracy
unfolding hour_imbalance hour_quantity before_fit
accuracy d t g a =
    let k = hour_none d t g a in
    let f = hour_fit_lem d t g k in
    let b = thresholds_sound g.terms f.inputs.terms in
    rw (by_none (hour_cause d t g) _ _ k, positions_left d t g k)
    (settles g.terms.upper g.terms.lower (before d t g) b.0 b.1 f.inputs.positions)

-- ---- the outcome of an accepted hour

-- an hour that is done has no cause, and its outcome is the one defined
done_by : (d : Day) (t : List ℤ) (g : Hour) (d' : Day) (o : Outcome) → hour_answer d t g ≡ Ok (record { day = d'; outcome = o })
    → (hour_cause d t g ≡ Ok tt) × (outcome (hour_imbalance d t g) (before d t g) ≡ o)
unfolding hour_answer
done_by d t g d' o e = let (k, q) = with_day_none d e in (k, ap (λ (x : HourDone). x.outcome) q)

pub outcome_by_thresholds : OutcomeByThresholds
unfolding hour_imbalance imbalance
outcome_by_thresholds d t g d' o e =
    let (k, q) = done_by d t g d' o e in
    let b = thresholds_sound g.terms (hour_fit_lem d t g k).inputs.terms in
    rw q at (tells g.terms.upper g.terms.lower (sum_ℤ (before d t g)) b.0 b.1 (before d t g) (view g.terms.upper g.terms.lower (sum_ℤ (before d t g))))

-- ---- the marks

-- a place beyond the users is no causer's
causer_at : (i : Imbalance) (ps : List ℤ) (p : ℕ) → get_or (causers i ps) p false ≡ caused i (get_or ps p (pos 0))
unfolding causers caused
causer_at within ps p = get_or-map (caused within) ps p (pos 0)
causer_at (excess n) ps p = get_or-map (caused (excess n)) ps p (pos 0)
causer_at (shortfall n) ps p = get_or-map (caused (shortfall n)) ps p (pos 0)

marks_are : (i : Imbalance) (ps : List ℤ) (side : Side) (m : Marks) → outcome i ps ≡ Settled side m → m ≡ marks (causers i ps)
unfolding outcome
marks_are within ps side m e = let z : ◌≡◌ {A = ℕ} 0 1 = cc in absurd (omega arith)
marks_are (excess n) ps side m e = cc
marks_are (shortfall n) ps side m e = cc

pub marks_are_causers : MarksAreCausers
unfolding causers
marks_are_causers d t g d' side m e =
    let i = hour_imbalance d t g in
    let ps = before d t g in
    let (k, q) = done_by d t g d' (Settled side m) e in
    let few : length (causers i ps) ≤ 128 = omega (arith, length-map ps (caused i), length_before d t g, (hour_sound d t g k).few) in
    rw (marks_are i ps side m q) ((λ p h. marked_at (causers i ps) few p h ∙ causer_at i ps p), marks_number (causers i ps) few ∙ count_map (λ b. b) (caused i) ps)

pub as_settling_a_copy : AsSettlingACopy
as_settling_a_copy d t g lent = (as_a_copy d t g lent, turned_away d t g lent)

-- ---- the judge

pub accepted_if_right : AcceptedIfRight
accepted_if_right d t g qs = (accepted_right d t g qs, λ k. right_accepted d t g qs k.0 k.1)

pub accepted_keeps : AcceptedKeeps
unfolding before_fit
accepted_keeps d t g qs e =
    let (f, right) = accepted_right d t g qs e in
    let b = thresholds_sound g.terms f.inputs.terms in
    kept g.terms.upper g.terms.lower (before d t g) b.0 b.1 f.inputs.positions (hour_view d t g)
    (judged_long d t g qs f) right

pub own_accepted : OwnAccepted
own_accepted d t g e =
    let (fit, right) = own_judged d t g (hour_none d t g e) in
    ap judge_number (judged_read d t g (hour_quantity d t g)) ∙ right_accepted d t g (hour_quantity d t g) fit right

-- A preview against the hour that it shows. Assumes nothing.
use mathlib.Core.Path.{◌≡◌, refl, sym}
use mathlib.Core.Bool.{Bool, true, false}
use mathlib.Core.List.{List}
use lib.IntN.{ℤ}
use Rattle.std.specs.Prelude.{Result, Ok, Err}
use Rattle.rules.specs.declared.Cause.{Cause}
use Rattle.rules.specs.declared.Cause.TheVariants as cause
use Rattle.rules.specs.declared.Day.{Day}
use Rattle.rules.specs.declared.Outcome.{Outcome}
use Rattle.rules.specs.Refusals.{unless, ◌then◌, by_cause}
use Rattle.rules.specs.Hours.{Hour}
use Rattle.rules.specs.Causes.{day_fit, list_long, hour_cause, preview_cause}
use Rattle.rules.specs.Answers.{with_day, hour_answer, hour_quantity, hour_money, hour_scratch, preview_answer, preview_quantity, preview_money, preview_after, preview_scratch}
use Rattle.rules.specs.Guarantees.{with_record, AsACopy, TurnedAway}
use Rattle.rules.proofs.Refusing.{by_some}
use Rattle.rules.proofs.Conserving.{positions_left}

-- what is answered by a cause, with another record
with_record_day : (d e : Day) (o : Outcome) (c : Result Unit Cause)
    → (with_day d c then Ok (record { day = d; outcome = o })) ≡ with_record d (with_day d c then Ok (record { day = e; outcome = o }))
with_record_day d e o (Ok u) = refl
with_record_day d e o (Err k) = refl

-- what is left by a cause, where there is none
by_accepted : {A : Type 0} {x y : A} (z : A) (c : Result Unit Cause) → (c ≡ Ok tt → x ≡ y) → by_cause c x z ≡ by_cause c y z
unfolding by_cause
by_accepted z (Ok u) same = same refl
by_accepted z (Err k) same = refl

-- a test that stands before itself
asked_twice : {A E : Type 0} (b : Bool) (k : E) (r : Result A E) → (unless b k then unless b k then r) ≡ (unless b k then r)
asked_twice true k r = refl
asked_twice false k r = refl

module _ (d : Day) (t : List ℤ) (g : Hour) (lent : List ℤ) where
  -- ---- with a list of the user count
  same_cause : list_long d lent ≡ true → preview_cause d t g lent ≡ hour_cause d t g
  unfolding preview_cause hour_cause
  same_cause long = rw long (asked_twice (day_fit d) cause.Record _)

  pub as_a_copy : list_long d lent ≡ true → AsACopy d t g lent
  unfolding preview_answer preview_quantity preview_money preview_after preview_scratch hour_answer hour_quantity hour_money hour_scratch
  as_a_copy long = record {
    answer = rw (same_cause long) (with_record_day d _ _ (hour_cause d t g));
    quantity = rw (same_cause long) refl;
    money = rw (same_cause long) refl;
    scratch = rw (same_cause long) refl;
    after = rw (same_cause long) (by_accepted lent (hour_cause d t g) (λ none. sym (positions_left d t g none)));
  }

  -- ---- with a list of another length
  by_record : day_fit d ≡ false → preview_cause d t g lent ≡ Err cause.Record
  unfolding preview_cause
  by_record unfit = rw unfit refl

  module _ (other : list_long d lent ≡ false) where
    by_length : day_fit d ≡ true → preview_cause d t g lent ≡ Err cause.Lengths
    unfolding preview_cause
    by_length fit = rw (fit, other) refl

    some_cause : (k : Cause) × (preview_cause d t g lent ≡ Err k)
    some_cause = go (day_fit d) refl
      where
        go : (b : Bool) → day_fit d ≡ b → (k : Cause) × (preview_cause d t g lent ≡ Err k)
        go true fit = (cause.Lengths, by_length fit)
        go false unfit = (cause.Record, by_record unfit)

    pub turned_away : TurnedAway d t g lent
    unfolding preview_answer preview_quantity preview_money preview_after preview_scratch
    turned_away =
        let (_, is) = some_cause in
        record {
          by_2 = λ unfit. rw (by_record unfit) refl;
          by_3 = λ fit. rw (by_length fit) refl;
          quantity = by_some _ _ _ is;
          money = by_some _ _ _ is;
          scratch = by_some _ _ _ is;
          after = by_some _ _ _ is;
        }

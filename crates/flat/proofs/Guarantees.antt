-- The theorems of specs/Guarantees.antt. Assumes nothing.
use mathlib.Core.Path.{◌≡◌, refl, ap, ◌∙◌}
use mathlib.Core.Bool.{Bool, true, false}
use Rattle.std.specs.Prelude.{Result, Ok, Err}
use Rattle.rules.specs.declared.Cause.{Cause}
use Rattle.rules.specs.declared.Day.{Day}
use Rattle.rules.specs.declared.Side.TheVariants.{Excess, Shortfall}
use Rattle.rules.specs.declared.Outcome.{Outcome}
use Rattle.rules.specs.declared.Outcome.TheVariants.{Within, Settled}
use Rattle.rules.specs.Refusals.{◌then◌}
use Rattle.rules.specs.Causes.{hour_cause, preview_cause, judge_inputs_cause, closing_cause}
use Rattle.rules.specs.Answers.{with_day, hour_answer, preview_answer, closing_answer}
use Rattle.rules.specs.Judging.{judge_cause, judge_answer}
use Rattle.record_c.specs.declared.DayC.{DayC}
use Rattle.record_c.specs.Records.{marks_fit, day_for_c, day_of}
use Rattle.record_c.proofs.Guarantees.{record_kept, no_users}
use Rattle.flat.specs.declared.HourC.{HourC}
use Rattle.flat.specs.declared.JudgedC.{JudgedC}
use Rattle.flat.specs.Flat.{flat_done, flat_hour, flat_judged}
use Rattle.flat.specs.Guarantees.{OddMarkRefused, PreviewKeepsRecord, JudgeKeepsRecord}

pub odd_mark_refused : OddMarkRefused
unfolding hour_answer hour_cause preview_answer preview_cause judge_answer judge_cause judge_inputs_cause closing_answer closing_cause
odd_mark_refused d e = (
  (λ t g. rw (no_users d e) refl),
  (λ t g lent. rw (no_users d e) refl),
  (λ t g qs. rw (no_users d e) refl),
  (λ t g. rw (no_users d e) refl),
)

-- ---- the record of a preview

done-day : (d : DayC) (o : Outcome) → (flat_done d o).day ≡ d
done-day d Within = refl
done-day d (Settled (Excess n) m) = refl
done-day d (Settled (Shortfall n) m) = refl

-- what is answered by a cause with the record that was given
answered : (d : DayC) (e : Day) (o : Outcome) (c : Result Unit Cause) → day_for_c e ≡ d
    → (flat_hour d (with_day e c then Ok (record { day = e; outcome = o }))).day ≡ d
answered d e o (Ok u) is = done-day (day_for_c e) o ∙ is
answered d e o (Err k) is = refl

pub preview_keeps_record : PreviewKeepsRecord
unfolding preview_answer
preview_keeps_record d t g lent = go (marks_fit d) refl
  where
    go : (b : Bool) → marks_fit d ≡ b → (flat_hour d (preview_answer (day_of d) t g lent)).day ≡ d
    go true e = answered d (day_of d) _ (preview_cause (day_of d) t g lent) (record_kept.1 d e)
    go false e = ap (λ (r : HourC). r.day) ((odd_mark_refused d e).1 t g lent)

-- ---- the record of the judge

judged-day : (d : DayC) (e : Day) (c : Result Unit Cause) → day_for_c e ≡ d → (flat_judged d (with_day e c then Ok e)).day ≡ d
judged-day d e (Ok u) is = is
judged-day d e (Err k) is = refl

pub judge_keeps_record : JudgeKeepsRecord
unfolding judge_answer
judge_keeps_record d t g qs = go (marks_fit d) refl
  where
    go : (b : Bool) → marks_fit d ≡ b → (flat_judged d (judge_answer (day_of d) t g qs)).day ≡ d
    go true e = judged-day d (day_of d) (judge_cause (day_of d) t g qs) (record_kept.1 d e)
    go false e = ap (λ (r : JudgedC). r.day) ((odd_mark_refused d e).2 t g qs)

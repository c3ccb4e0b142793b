-- What a call's answer says of its cause; and what is printed. Assumes nothing.
use mathlib.Core.Path.{◌≡◌, refl, sym, ap}
use mathlib.Core.List.{List}
use Prim.Native.Nat.{ℕ}
use lib.IntN.{ℤ}
use Rattle.std.specs.Prelude.{Result, Ok, Err, IsOkAnd, IsErrAnd}
use Rattle.rules.specs.declared.Cause.{Cause}
use Rattle.rules.specs.declared.Day.{Day}
use Rattle.rules.specs.declared.Refusal.{Refusal}
use Rattle.rules.specs.declared.Thresholds.{Thresholds}
use Rattle.rules.specs.Refusals.{number, ◌then◌}
use Rattle.rules.specs.Days.{new_day}
use Rattle.rules.specs.Thresholds.{upper_default, lower_default}
use Rattle.rules.specs.Causes.{open_cause, thresholds_cause}
use Rattle.rules.specs.Answers.{with_day, open_answer, thresholds_answer}
use Rattle.rules.proofs.Refusing.{not_refused, then_none}
use Rattle.report.specs.Text.{refused_line}
use Rattle.text.specs.declared.writing.Writer.{Writer}
use Rattle.text.specs.Puts.{Wrote}
use Rattle.hour_text.specs.Lent.{Writes}
use Rattle.hour_text.specs.Opened.{unless_refused}

-- a refusal is by the call's cause
then_some : {A E : Type 0} (c : Result Unit E) (a : A) {k : E} → (c then Ok a) ≡ Err k → c ≡ Err k
then_some (Ok u) a e = absurd (not_refused (sym e))
then_some (Err l) a e = cc

pub with_day_some : {A : Type 0} (d : Day) (c : Result Unit Cause) (a : A) {r : Refusal} → (with_day d c then Ok a) ≡ Err r → c ≡ Err r.cause
with_day_some d (Ok u) a e = absurd (not_refused (sym e))
with_day_some d (Err k) a {r} e =
    let q : ◌≡◌ {A = Refusal} (record { cause = k; day = d }) r = cc in
    let f : k ≡ r.cause = ap (λ (r : Refusal). r.cause) q in
    rw f refl

module _ (n len : ℤ) (t : List ℤ) where
  pub open_refused : {k : Cause} → Err k ≡ open_answer n len t → open_cause n len t ≡ Err k
  unfolding open_answer
  open_refused e = then_some _ _ (sym e)

  pub open_done : {d : Day} → Ok d ≡ open_answer n len t → (open_cause n len t ≡ Ok tt) × (d ≡ new_day n len)
  unfolding open_answer
  open_done e = let p = then_none (sym e) in (p.0, cc)

module _ (month zone : ℤ) where
  pub thresholds_refused : {k : Cause} → Err k ≡ thresholds_answer month zone → thresholds_cause month zone ≡ Err k
  unfolding thresholds_answer
  thresholds_refused e = then_some _ _ (sym e)

  pub thresholds_done : {d : Thresholds} → Ok d ≡ thresholds_answer month zone
      → (thresholds_cause month zone ≡ Ok tt) × (d ≡ record { upper = upper_default month zone; lower = lower_default month zone })
  unfolding thresholds_answer
  thresholds_done e = let p = then_none (sym e) in (p.0, cc)

-- a refusal that a call hands on
pub refused_writes : {text : Result (List ℕ) Cause} {k : Cause} (w : Writer) (r : Result Unit Cause)
    → IsErrAnd r (λ l. l ≡ k) → text ≡ Err k → Writes text w w r
refused_writes w (Ok u) h e = absurd h
refused_writes w (Err l) h e = (rw h e, refl)

-- the text that is written, or the line of its cause
pub text_wrote : (text : Result (List ℕ) Cause) {w w' : Writer} → IsOkAnd text (Wrote w w') → Wrote w w' (unless_refused text)
unfolding unless_refused
text_wrote (Ok t) p = p
text_wrote (Err k) p = absurd p

pub line_wrote : {text : Result (List ℕ) Cause} {k : Cause} {w w₀ w' : Writer}
    → text ≡ Err k → w ≡ w₀ → Wrote w w' (refused_line (number k)) → Wrote w₀ w' (unless_refused text)
unfolding unless_refused
line_wrote e f p = rw (e, ← f) p

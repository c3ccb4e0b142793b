-- Laws of causes: what no cause says of the tests, and what is answered by a cause. Assumes nothing.
use mathlib.Core.Path.{◌≡◌, refl, sym, ap, ◌∙◌}
use mathlib.Core.Bool.{Bool, true, false}
use mathlib.Core.Logic.{◌⊎◌, inl, inr}
use Prim.Native.Nat.{ℕ, ◌<◌}
use native.Mathlib.Omega.{arith}
use borrow.Author.Tests.{ne_eqb}
use lib.Dec.{eqb, lit<}
use Rattle.std.specs.Prelude.{Result, Ok, Err}
use Rattle.std.specs.Result.{is_ok}
use Rattle.rules.specs.declared.Cause.{Cause}
use Rattle.rules.specs.declared.Cause.TheVariants as cause
use Rattle.rules.specs.declared.Day.{Day}
use Rattle.rules.specs.declared.Refusal.{Refusal}
use Rattle.rules.specs.Refusals.{number, unless, ◌then◌, by_cause}
use Rattle.rules.specs.Answers.{with_day, number_by}

pub not_refused : {A E : Type 0} {a : A} {k : E} → Err k ≡ Ok a → ⊥
not_refused e = let z : ◌≡◌ {A = ℕ} 0 1 = cc in absurd (omega arith)

-- no cause: the test held
pub unless_none : {E : Type 0} (b : Bool) (k : E) → unless b k ≡ Ok tt → b ≡ true
unless_none true k e = refl
unless_none false k e = absurd (not_refused e)

-- no cause of the two: none of either
pub then_none : {A E : Type 0} {c : Result Unit E} {r : Result A E} {a : A} → (c then r) ≡ Ok a → (c ≡ Ok tt) × (r ≡ Ok a)
then_none {c = Ok u} e = (refl, e)
then_none {c = Err k} e = absurd (not_refused e)

-- what is answered by no cause, and the cause where there is one
pub then_ok : {A E : Type 0} {c : Result Unit E} {a b : A} → (c then Ok a) ≡ Ok b → (c ≡ Ok tt) × (a ≡ b)
then_ok {c = Ok u} e = (refl, cc)
then_ok {c = Err k} e = absurd (not_refused e)

pub then_err : {A E : Type 0} (c : Result Unit E) (a : A) {k : E} → (c then Ok a) ≡ Err k → c ≡ Err k
then_err (Ok u) a e = absurd (not_refused (sym e))
then_err (Err j) a e = ap Err cc

-- of three, the first of the first two and then the third is the first and then those of the other two
pub then_assoc : {A E : Type 0} (c r : Result Unit E) (s : Result A E) → ((c then r) then s) ≡ (c then r then s)
then_assoc (Ok u) r s = refl
then_assoc (Err k) r s = refl

-- a test that was required held
pub required : {A E : Type 0} (b : Bool) (k : E) (r : Result A E) {a : A} → (unless b k then r) ≡ Ok a → (b ≡ true) × (r ≡ Ok a)
required true k r e = (refl, e)
required false k r e = absurd (not_refused e)

-- a call has no cause, or one
pub cause_of : {E : Type 0} (c : Result Unit E) → (c ≡ Ok tt) ⊎ ((k : E) × (c ≡ Err k))
cause_of (Ok u) = inl refl
cause_of (Err k) = inr (k, refl)

pub by_none : {A E : Type 0} (c : Result Unit E) (a b : A) → c ≡ Ok tt → by_cause c a b ≡ a
unfolding by_cause
by_none (Ok u) a b e = refl
by_none (Err k) a b e = absurd (not_refused e)

pub by_some : {A E : Type 0} (c : Result Unit E) (a b : A) {k : E} → c ≡ Err k → by_cause c a b ≡ b
unfolding by_cause
by_some c a b e = rw e refl

-- an answer that is no refusal: no cause, and what is then answered
pub with_day_none : {A : Type 0} (d : Day) {c : Result Unit Cause} {r : A} {a : A} → (with_day d c then Ok r) ≡ Ok a → (c ≡ Ok tt) × (r ≡ a)
with_day_none d {c = Ok u} e = (refl, cc)
with_day_none d {c = Err k} e = absurd (not_refused e)

-- what is answered with the record where there is a cause
pub with_day_ok : {A : Type 0} (d : Day) {c : Result A Cause} {a : A} → with_day d c ≡ Ok a → c ≡ Ok a
with_day_ok d {c = Ok b} e = ap Ok cc
with_day_ok d {c = Err k} e = absurd (not_refused e)

pub with_day_err : {A : Type 0} (d : Day) (c : Result A Cause) {r : Refusal} → with_day d c ≡ Err r → (c ≡ Err r.cause) × (r ≡ record { cause = r.cause; day = d })
with_day_err d (Ok a) e = absurd (not_refused (sym e))
with_day_err d (Err k) {r} e =
    let is : r ≡ record { cause = k; day = d } = cc in
    (ap Err (sym (ap (λ (x : Refusal). x.cause) is)), is ∙ ap (λ (j : Cause). record { cause = j; day = d }) (sym (ap (λ (x : Refusal). x.cause) is)))

-- ---- the number of a cause, and of an answer

pub number_some : (k : Cause) → 0 < number k
number_some cause.Users = lit< tt
number_some cause.Record = lit< tt
number_some cause.Lengths = lit< tt
number_some cause.Zone = lit< tt
number_some cause.Closed = lit< tt
number_some cause.Hour = lit< tt
number_some cause.Table = lit< tt
number_some cause.Terms = lit< tt
number_some cause.Amounts = lit< tt
number_some cause.Pooling = lit< tt
number_some cause.Positions = lit< tt
number_some cause.DayLength = lit< tt
number_some cause.Signs = lit< tt
number_some cause.Shares = lit< tt
number_some cause.Sum = lit< tt
number_some cause.Totals = lit< tt

pub number_none : (c : Result Unit Cause) → number_by number c ≡ 0 → c ≡ Ok tt
number_none (Ok u) e = refl
number_none (Err k) e = absurd (omega (arith, number_some k))

pub number_is_ok : (c : Result Unit Cause) → eqb (number_by number c) 0 ≡ is_ok c
number_is_ok (Ok u) = refl
number_is_ok (Err k) = ne_eqb (number k) 0 (λ e. absurd (omega (arith, number_some k)))

-- a refusal by a cause has its number
pub number_with_day : {A : Type 0} (d : Day) (c : Result Unit Cause) (r : A)
    → number_by (λ r. number r.cause) (with_day d c then Ok r) ≡ number_by number c
number_with_day d (Ok u) r = refl
number_with_day d (Err k) r = refl

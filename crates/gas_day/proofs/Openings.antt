-- An opening and default thresholds by their cause. Assumes nothing.
use mathlib.Core.Path.{◌≡◌, refl, ap, ◌∙◌}
use mathlib.Core.List.{List}
use Prim.Native.Nat.{ℕ, zero, suc, ◌<◌, ◌^◌}
use native.Mathlib.Omega.{arith}
use lib.IntN.{ℤ, pos, neg_ℤ, ◌-ℤ◌, +ℤ_idl}
use lib.ListN.{length, replicate}
use Rattle.std.proofs.Common.{FitsSigned, w64, to_z, of_z}
use Rattle.integers.proofs.Machine.{back}
use Rattle.std.specs.Prelude.{Result, Ok, Err}
use Rattle.rules.specs.declared.Cause.{Cause}
use Rattle.rules.specs.declared.Day.{Day}
use Rattle.rules.specs.Limits.{users_fit, length_fit}
use Rattle.rules.specs.Refusals.{by_cause}
use Rattle.rules.specs.Thresholds.{upper_default, lower_default}
use Rattle.rules.specs.Days.{new_day}
use Rattle.rules.specs.Causes.{table_long, open_cause, thresholds_cause}
use Rattle.rules.specs.Answers.{open_answer, open_table, thresholds_answer}
use Rattle.rules.specs.Promises.{OpenPromise}
use Rattle.rules.proofs.Refusing.{unless_none, required}
use Rattle.rules.proofs.Accepted.{table_long_lem}

module _ (n len : ℤ) (t : List ℤ) where
  pub not_opened : {k : Cause} {r : Result Day Cause} → open_cause n len t ≡ Err k → r ≡ Err k → OpenPromise n len t t r
  unfolding open_answer open_table by_cause
  not_opened is e = record { answer = rw (e, is) refl; table = rw is refl }

  pub opened : {d : Day} {t' : List ℤ} → open_cause n len t ≡ Ok tt → d ≡ new_day n len → t' ≡ replicate (length t) (pos 0) → OpenPromise n len t t' (Ok d)
  unfolding open_answer open_table by_cause open_cause
  opened none e f =
      let (few, n21) = required (users_fit n) _ _ none in
      let (lasts, n3) = required (length_fit len) _ _ n21 in
      let long = unless_none (table_long t) _ n3 in
      record { answer = rw (e, few, lasts, long) refl; table = rw (few, lasts, long) (f ∙ ap (λ (m : ℕ). replicate m (pos 0)) (table_long_lem t long)) }

-- ---- default thresholds

fits : (n : ℕ) → n < 2 ^ 63 → FitsSigned w64 (neg_ℤ (pos n))
fits zero h = record { sfits = h }
fits (suc n) h = record { sfits = omega (arith, h) }

pub fits_negated : (n : ℕ) → n < 2 ^ 63 → FitsSigned w64 (pos 0 -ℤ pos n)
fits_negated n h = rw (+ℤ_idl (neg_ℤ (pos n))) (fits n h)

-- a number that is not negative, negated by the machine
pub negated : (x : ℤ) (n : ℕ) → x ≡ pos n → n < 2 ^ 63 → to_z w64 (of_z w64 (pos 0 -ℤ to_z w64 (of_z w64 x))) ≡ neg_ℤ (pos n)
negated x n e h = rw (e, back (pos n) h, +ℤ_idl (neg_ℤ (pos n))) (back (neg_ℤ (pos n)) (fits n h).sfits)

pub defaults : (month zone : ℤ) {upper lower : ℤ} → thresholds_cause month zone ≡ Ok tt → upper ≡ upper_default month zone → lower ≡ lower_default month zone
    → Ok (record { upper = upper; lower = lower }) ≡ thresholds_answer month zone
unfolding thresholds_answer
defaults month zone none e f = rw (none, e, f) refl

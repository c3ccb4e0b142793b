-- A preview by its cause: what is answered where there is one, what the settlement of the copy may count on where there is none, and what is answered then. Assumes nothing.
use mathlib.Core.Path.{◌≡◌, refl, ap}
use mathlib.Core.Bool.{true}
use mathlib.Core.List.{List}
use Prim.Native.Nat.{ℕ}
use native.Mathlib.Omega.{arith}
use borrow.Author.Tests.{eqb-true}
use lib.IntN.{ℤ}
use lib.ListN.{length}
use Rattle.std.specs.Prelude.{Result, Ok, Err}
use Rattle.integers.specs.Lists.{sum_ℤ}
use Rattle.rules.specs.declared.Amounts.{Amounts}
use Rattle.rules.specs.declared.Cause.{Cause}
use Rattle.rules.specs.declared.Day.{Day}
use Rattle.rules.specs.declared.HourTerms.{HourTerms}
use Rattle.rules.specs.declared.Outcome.{Outcome}
use Rattle.rules.specs.declared.Outputs.{Outputs}
use Rattle.rules.specs.declared.Refusal.{Refusal}
use Rattle.rules.specs.declared.HourDone.{HourDone}
use Rattle.rules.specs.Refusals.{◌then◌, by_cause}
use Rattle.rules.specs.Days.{users, part}
use Rattle.rules.specs.Hours.{Hour, hour_given, before}
use Rattle.rules.specs.Causes.{day_fit, list_long, hour_cause, preview_cause}
use Rattle.rules.specs.Market.{hour_imbalance}
use Rattle.rules.specs.Answers.{preview_answer, preview_quantity, preview_money, preview_after, preview_scratch}
use Rattle.rules.specs.Promises.{PreviewPromise}
use Rattle.rules.proofs.Refusing.{required, then_ok}
use Rattle.settlement.specs.Steps.{TableAsks, UsersLeave}
use Rattle.gas_day.proofs.Hours.{lengths, positions_before, asks}

module _ (d : Day) (t : List ℤ) (k : HourTerms) (a : Amounts) (o : Outputs) (s : List ℕ) (lent : List ℤ) where
  abbrev g : Hour
  g = hour_given k a o s

  pub not_previewed : {cause : Cause} {r : Result HourDone Refusal}
      → preview_cause d t g lent ≡ Err cause → r ≡ Err (record { cause = cause; day = d }) → PreviewPromise d t g lent o.quantity.now o.money.now lent s r
  unfolding preview_answer preview_quantity preview_money preview_after preview_scratch by_cause
  not_previewed is e = record { answer = rw (e, is) refl; quantity = rw is refl; money = rw is refl; after = rw is refl; scratch = rw is refl }

  -- no cause, and the market position m
  module _ {m : ℤ} (past : (preview_cause d t g lent then Ok (sum_ℤ (before d t g))) ≡ Ok m) where
    none : preview_cause d t g lent ≡ Ok tt
    none = (then_ok past).0

    -- nor has the hour a cause
    no_cause : (list_long d lent ≡ true) × (hour_cause d t g ≡ Ok tt)
    unfolding preview_cause
    no_cause = let (_, n3) = required (day_fit d) _ _ none in required (list_long d lent) _ _ n3

    hour_past : (hour_cause d t g then Ok (sum_ℤ (before d t g))) ≡ Ok m
    hour_past = rw no_cause.1 (ap Ok (then_ok past).1)

    pub copy_asked : TableAsks t a k m o s × (length lent ≡ length a.entries.now)
    unfolding list_long
    copy_asked =
        let (long, _) = no_cause in
        (asks d t k a o s hour_past, omega (arith, eqb-true (length lent) (users d) long, (lengths d t k a o s hour_past).amounts.entries))

    pub previewed : (a' : List ℤ) (o' : Outputs) (s' : List ℕ) (x : Outcome)
        → UsersLeave (part k.zone t) a' a k o o' s s' x
        → PreviewPromise d t g lent o'.quantity.now o'.money.now a' s' (Ok (record { day = d; outcome = x }))
    unfolding hour_imbalance preview_answer preview_quantity preview_money preview_after preview_scratch by_cause
    previewed a' o' s' x v =
        let b = positions_before d t k a o s hour_past in
        record {
          answer = rw (none, b, v.lists.answer) refl;
          quantity = rw (none, b) v.lists.quantity;
          money = rw (none, b) v.lists.money;
          after = rw (none, b) v.places;
          scratch = rw none v.lists.scratch;
        }

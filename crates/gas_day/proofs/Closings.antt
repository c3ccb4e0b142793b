-- A closing by its cause: what is answered where there is one, what the closing of the table may count on where there is none, and what is answered then.
-- Assumes nothing.
use mathlib.Core.Path.{◌≡◌, refl}
use mathlib.Core.Bool.{true}
use mathlib.Core.List.{List}
use native.Mathlib.Omega.{arith}
use lib.IntN.{ℤ}
use lib.ListN.{length}
use Rattle.std.specs.Prelude.{Result, Ok, Err}
use Rattle.rules.specs.declared.Cause.{Cause}
use Rattle.rules.specs.declared.ClosingTerms.{ClosingTerms}
use Rattle.rules.specs.declared.Day.{Day}
use Rattle.rules.specs.declared.Sums.{Sums}
use Rattle.rules.specs.declared.Outputs.{Outputs}
use Rattle.rules.specs.declared.Refusal.{Refusal}
use Rattle.rules.specs.declared.ClosingDone.{ClosingDone}
use Rattle.rules.specs.Refusals.{◌then◌, by_cause}
use Rattle.rules.specs.Days.{users, day_after_closing}
use Rattle.rules.specs.Hours.{Closing, closing_given, standing}
use Rattle.rules.specs.Causes.{day_fit, closing_cause}
use Rattle.rules.specs.Market.{closing_sums}
use Rattle.rules.specs.Answers.{closing_answer, closing_table, closing_quantity, closing_money}
use Rattle.rules.specs.Promises.{ClosingPromise}
use Rattle.rules.proofs.Zones.{length_part}
use Rattle.rules.proofs.Refusing.{then_ok}
use Rattle.rules.proofs.Accepted.{closing_fit, ClosingLengths, closing_lengths, closing_sound, part-fits}
use Rattle.day_record.specs.Small.{SumsSmall}
use Rattle.causes.proofs.Totals.{closing_small}
use Rattle.closing.specs.Steps.{TableAsks, TableLeaves}

module _ (d : Day) (t : List ℤ) (k : ClosingTerms) (o : Outputs) where
  abbrev g : Closing
  g = closing_given k o

  pub not_closed : {cause : Cause} {r : Result ClosingDone Refusal}
      → closing_cause d t g ≡ Err cause → r ≡ Err (record { cause = cause; day = d }) → ClosingPromise d t g t o.quantity.now o.money.now r
  unfolding closing_answer closing_table closing_quantity closing_money by_cause
  not_closed is e = record { answer = rw (e, is) refl; table = rw is refl; quantity = rw is refl; money = rw is refl }

  -- no cause, and the two sums
  module _ {s : Sums} (past : (closing_cause d t g then Ok (closing_sums d t g)) ≡ Ok s) where
    none : closing_cause d t g ≡ Ok tt
    none = (then_ok past).0

    lengths : ClosingLengths (users d) g
    lengths = closing_lengths d t g (closing_fit d t g none).lengths

    pub asks : TableAsks t k o
    asks =
        let f = closing_fit d t g none in
        let s = closing_sound d t g none in
        let l = lengths in
        record {
          long = s.long;
          lists = record {
            few = omega (arith, l.quantities, s.few);
            room = omega (arith, l.quantities, s.few, length_part t s.long s.zoned);
            moneys = omega (arith, l.quantities, l.moneys);
            positions = part-fits k.zone d t f.table;
            prices = f.prices;
          };
        }

    pub day_fits_lem : day_fit d ≡ true
    day_fits_lem = (closing_fit d t g none).day

    pub sums_are_small : SumsSmall s
    unfolding closing_sums standing
    sums_are_small =
        let f = closing_fit d t g none in
        rw (← (then_ok past).1) (closing_small d t k.zone f.day f.table)

    pub done : (t' : List ℤ) (o' : Outputs) (d' : Day)
        → TableLeaves (length o.quantity.now) t t' k o o' → d' ≡ day_after_closing k.zone s d
        → ClosingPromise d t g t' o'.quantity.now o'.money.now (Ok (record { day = d'; sold = s.sold; bought = s.bought }))
    unfolding standing closing_sums closing_answer closing_table closing_quantity closing_money by_cause
    done t' o' d' v e =
        let n = lengths.quantities in
        record {
          answer = rw (none, e, ← (then_ok past).1) refl;
          table = rw none v.table;
          quantity = rw (none, ← n) v.lists.quantity;
          money = rw (none, ← n) v.lists.money;
        }

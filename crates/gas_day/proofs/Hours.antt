-- An hour by its cause: what is answered where there is one, what the settlement may count on where there is none, and what is answered then. Assumes nothing.
use mathlib.Core.Path.{◌≡◌, refl, sym, ap, ◌∙◌}
use mathlib.Core.Bool.{true}
use mathlib.Core.List.{List}
use Prim.Native.Nat.{ℕ, ◌≤◌}
use lib.IntN.{ℤ, nat_abs}
use Rattle.std.specs.Prelude.{Result, Ok, Err}
use Rattle.integers.specs.Lists.{sum_ℤ}
use Rattle.rules.specs.declared.Amounts.{Amounts}
use Rattle.rules.specs.declared.Cause.{Cause}
use Rattle.rules.specs.declared.Day.{Day}
use Rattle.rules.specs.declared.HourTerms.{HourTerms}
use Rattle.rules.specs.declared.Outcome.{Outcome}
use Rattle.rules.specs.declared.Outputs.{Outputs}
use Rattle.rules.specs.declared.Refusal.{Refusal}
use Rattle.rules.specs.declared.HourDone.{HourDone}
use Rattle.rules.specs.Refusals.{◌then◌, by_cause}
use Rattle.rules.specs.Days.{users, part, day_after_hour}
use Rattle.rules.specs.Hours.{Hour, hour_given, before}
use Rattle.rules.specs.Causes.{day_fit, terms_fit, hour_cause}
use Rattle.rules.specs.Market.{imbalance_of, hour_imbalance, hour_sums}
use Rattle.rules.specs.Answers.{hour_answer, hour_table, hour_quantity, hour_money, hour_scratch}
use Rattle.rules.specs.Promises.{HourPromise}
use Rattle.rules.proofs.Refusing.{then_ok}
use Rattle.rules.proofs.Accepted.{hour_fit_lem, HourLengths, hour_lengths, hour_sound}
use Rattle.rules.specs.Limits.{market_most}
use Rattle.day_record.specs.Small.{SumsSmall}
use Rattle.totals.specs.Sums.{total_sums}
use Rattle.totals.proofs.Hours.{market_asked, hour_told, hour_small}
use Rattle.positions.specs.Before.{befores}
use Rattle.positions.proofs.Before.{before_is, inputs_fit}
use Rattle.settlement.specs.Steps.{TableAsks, TableLeaves}

module _ (d : Day) (t : List ℤ) (k : HourTerms) (a : Amounts) (o : Outputs) (s : List ℕ) where
  abbrev g : Hour
  g = hour_given k a o s

  pub not_done : {cause : Cause} {r : Result HourDone Refusal}
      → hour_cause d t g ≡ Err cause → r ≡ Err (record { cause = cause; day = d }) → HourPromise d t g t o.quantity.now o.money.now s r
  unfolding hour_answer hour_table hour_quantity hour_money hour_scratch by_cause
  not_done is e = record { answer = rw (e, is) refl; table = rw is refl; quantity = rw is refl; money = rw is refl; scratch = rw is refl }

  -- no cause, and the market position m
  module _ {m : ℤ} (past : (hour_cause d t g then Ok (sum_ℤ (before d t g))) ≡ Ok m) where
    none : hour_cause d t g ≡ Ok tt
    none = (then_ok past).0

    pub lengths : HourLengths (users d) g
    lengths = hour_lengths d t g (hour_fit_lem d t g none).lengths

    pub positions_before : before d t g ≡ befores (part k.zone t) a
    positions_before = before_is d t k a _ _ _ lengths.amounts.entries

    pub day_fits_lem : day_fit d ≡ true
    day_fits_lem = (hour_fit_lem d t g none).day

    market_is : m ≡ sum_ℤ (befores (part k.zone t) a)
    market_is = sym (then_ok past).1 ∙ ap sum_ℤ positions_before

    pub asks : TableAsks t a k m o s
    asks =
        let f = hour_fit_lem d t g none in
        let sound = hour_sound d t g none in
        let l = lengths in
        let fit = inputs_fit d t k a _ _ _ sound l.amounts f.inputs in
        record {
          long = sound.long;
          lists = record {
            amounts = fit.range;
            positions = fit.positions;
            market = market_is;
            terms = f.inputs.terms;
            quantities = l.quantities ∙ sym l.amounts.entries;
            moneys = l.moneys ∙ sym l.amounts.entries;
            scratches = l.scratches ∙ sym l.amounts.entries;
          };
        }

    -- what the hour sells and buys, from its market position
    pub sums_asked : (terms_fit k ≡ true) × (nat_abs m ≤ market_most)
    sums_asked = rw (← (then_ok past).1) (market_asked d t g (hour_fit_lem d t g none).inputs (hour_sound d t g none).few)

    pub sums_told : total_sums (imbalance_of k.upper k.lower m) ≡ hour_sums d t g
    sums_told = rw (← (then_ok past).1) (hour_told d t g (hour_fit_lem d t g none).inputs)

    pub sums_small : SumsSmall (hour_sums d t g)
    sums_small = hour_small d t g (hour_fit_lem d t g none).inputs (hour_sound d t g none).few

    pub done : (t' : List ℤ) (o' : Outputs) (s' : List ℕ) (x : Outcome) (d' : Day)
        → TableLeaves t t' a k o o' s s' x → d' ≡ day_after_hour k.zone (hour_sums d t g) d
        → HourPromise d t g t' o'.quantity.now o'.money.now s' (Ok (record { day = d'; outcome = x }))
    unfolding hour_imbalance hour_answer hour_table hour_quantity hour_money hour_scratch by_cause
    done t' o' s' x d' v e =
        let b = positions_before in
        record {
          answer = rw (none, b, e, v.lists.answer) refl;
          table = rw (none, b) v.table;
          quantity = rw (none, b) v.lists.quantity;
          money = rw (none, b) v.lists.money;
          scratch = rw none v.lists.scratch;
        }

-- What the tests of an hour, of the judge and of a closing leave for those that come after, and causes 9 to 11 in the words of `amounts`. Assumes nothing.
use mathlib.Core.Path.{◌≡◌, refl, sym}
use mathlib.Core.Bool.{Bool, true, ◌&&◌}
use mathlib.Core.List.{List, []}
use Prim.Native.Nat.{ℕ}
use native.Mathlib.Omega.{arith}
use lib.IntN.{ℤ}
use Rattle.std.specs.Prelude.{Ok}
use Rattle.integers.specs.Lists.{sum_ℤ}
use Rattle.integers.proofs.Tests.{and_true}
use Rattle.rules.specs.declared.Amounts.{Amounts}
use Rattle.rules.specs.declared.Day.{Day}
use Rattle.rules.specs.declared.HourTerms.{HourTerms}
use Rattle.rules.specs.declared.Outputs.{Outputs}
use Rattle.rules.specs.Limits.{zone_fit}
use Rattle.rules.specs.Days.{users, part}
use Rattle.rules.specs.Hours.{hour_given, inputs_given, amounts, before}
use Rattle.rules.specs.Market.{hour_imbalance, hour_sums}
use Rattle.rules.specs.Refusals.{◌then◌}
use Rattle.rules.specs.Causes.{day_fit, table_long, list_long, scratch_long, amounts_long, hour_long, judge_long, zone_open, hour_next, table_fit, terms_fit, amounts_fit, pooling_adds, before_fit, inputs_cause, hour_cause, judge_inputs_cause}
use Rattle.rules.proofs.Refusing.{then_assoc}
use Rattle.rules.proofs.Zones.{zone_of_lem, length_part}
use Rattle.rules.proofs.Accepted.{users_of_lem, table_long_lem, AmountLengths, hour_lengths, judge_lengths, part-fits}
use Rattle.places.specs.Live.{Tabled}
use Rattle.positions.specs.Before.{all_fit, befores}
use Rattle.positions.proofs.Before.{before_is, one_length}
use Rattle.amounts.specs.Amounts.{amounts_cause, LentTable}
use Rattle.causes.specs.Steps.{hour_lists_long, judge_lists_long, closing_lists_long, Listed, inputs_and_totals_cause}

tabled : (d : Day) (t : List ℤ) → day_fit d ≡ true → table_long t ≡ true → Tabled d t
tabled d t day long = record { few = (users_of_lem d day).1; long = table_long_lem t long }

pub closing_tabled : (d : Day) (t : List ℤ) (o : Outputs) → day_fit d ≡ true → closing_lists_long d t o ≡ true → Tabled d t
closing_tabled d t o day long = tabled d t day (and_true (table_long t) _ long).0

module _ (d : Day) (t : List ℤ) (a : Amounts) where
  -- ---- what causes 2 and 3 leave for those after them
  listed : day_fit d ≡ true → (rest : Bool) → (table_long t && rest) ≡ true
      → AmountLengths (users d) a.entries.now a.exits.now a.titles.now a.poolings.now → Listed d t a
  listed day rest long l = record {
    day = day;
    tabled = tabled d t day (and_true (table_long t) rest long).0;
    entries = l.entries;
    lists = one_length a l;
  }

  module _ (k : HourTerms) where
    pub listed_by_hour : (o : Outputs) (s : List ℕ) → day_fit d ≡ true → hour_lists_long d t a o s ≡ true → Listed d t a
    unfolding hour_long amounts_long list_long scratch_long
    listed_by_hour o s day long = listed day _ long (hour_lengths d t (hour_given k a o s) long).amounts

    pub listed_by_judge : (qs : List ℤ) → day_fit d ≡ true → judge_lists_long d t a qs ≡ true → Listed d t a
    unfolding judge_long amounts_long list_long
    listed_by_judge qs day long = listed day _ long (judge_lengths d t (inputs_given k a) qs long).amounts

    pub hour_past_3 : (o : Outputs) (s : List ℕ) → day_fit d ≡ true → hour_lists_long d t a o s ≡ true
        → inputs_and_totals_cause d t (inputs_given k a)
        ≡ (hour_cause d t (hour_given k a o s) then Ok (sum_ℤ (before d t (hour_given k a o s))))
    unfolding hour_cause hour_long amounts_long list_long scratch_long inputs_cause amounts_fit pooling_adds before_fit before amounts hour_sums hour_imbalance
    hour_past_3 o s day long = rw (day, long) (sym (then_assoc (inputs_cause d t (hour_given k a o s)) _ _))

    pub judge_past_3 : (qs : List ℤ) → day_fit d ≡ true → judge_lists_long d t a qs ≡ true
        → (inputs_cause d t (inputs_given k a) then Ok (sum_ℤ (before d t (inputs_given k a))))
        ≡ (judge_inputs_cause d t (inputs_given k a) qs then Ok (sum_ℤ (before d t (inputs_given k a))))
    unfolding judge_inputs_cause judge_long amounts_long list_long
    judge_past_3 qs day long = rw (day, long) refl

  module _ (l : Listed d t a) (k : HourTerms) where
    pub hour_lent : zone_fit k.zone ≡ true → table_fit d t ≡ true → LentTable k.zone t a
    hour_lent zone fit =
        let few = l.tabled.few in
        record {
          long = l.tabled.long;
          lent = record {
            lists = l.lists;
            few = omega (arith, l.entries, few);
            room = omega (arith, l.entries, few, length_part t l.tabled.long (zone_of_lem k.zone zone));
            positions = part-fits k.zone d t fit;
          };
        }

    -- past causes 4 to 8
    pub hour_amounts : zone_fit k.zone ≡ true → zone_open k.zone d ≡ true → hour_next d k ≡ true → table_fit d t ≡ true → terms_fit k ≡ true
        → (amounts_cause (part k.zone t) a then Ok (sum_ℤ (befores (part k.zone t) a)))
        ≡ (inputs_cause d t (inputs_given k a) then Ok (sum_ℤ (before d t (inputs_given k a))))
    unfolding inputs_cause amounts_cause all_fit amounts_fit pooling_adds before_fit
    hour_amounts zone open' next table terms =
        rw (zone, open', next, table, terms, before_is d t k a [] [] [] l.entries) refl

-- Laws of the positions before settlement of lent lists. Assumes nothing.
use mathlib.Core.Path.{◌≡◌, sym, ◌∙◌}
use mathlib.Core.Bool.{true}
use mathlib.Core.List.{List}
use Prim.Native.Nat.{ℕ, ◌<◌}
use native.Mathlib.Omega.{arith}
use lib.IntN.{ℤ, pos}
use lib.ListN.{length, get_or}
use Rattle.integers.specs.Lists.{every, AtMost}
use Rattle.integers.proofs.Counts.{length-tabulate, get_or-tabulate}
use Rattle.integers.proofs.Tests.{and_true}
use Rattle.rules.specs.declared.Amounts.{Amounts}
use Rattle.rules.specs.declared.Day.{Day}
use Rattle.rules.specs.declared.HourTerms.{HourTerms}
use Rattle.rules.specs.Limits.{entry_most, exit_most, title_most, pooling_most, entry_fit, exit_fit, title_fit, pooling_fit}
use Rattle.rules.specs.Days.{users, part, place}
use Rattle.rules.specs.Hours.{hour_listed, amounts, before}
use Rattle.rules.specs.Causes.{amounts_fit, before_fit}
use Rattle.rules.specs.Guarantees.{InputsFit}
use Rattle.rules.proofs.Zones.{length_part}
use Rattle.rules.proofs.Accepted.{Sound, AmountLengths, part-fits}
use Rattle.rules.proofs.Small.{entries_small, exits_small, titles_small, poolings_small}
use Rattle.positions.specs.Before.{amounts_at, before_at, befores, all_fit, OneLength, Fit}

module _ (p : List ℤ) (a : Amounts) where
  pub length-befores : length (befores p a) ≡ length a.entries.now
  unfolding befores
  length-befores = length-tabulate _ (length a.entries.now)

  pub befores_at : (user : ℕ) → user < length a.entries.now → get_or (befores p a) user (pos 0) ≡ before_at p a user
  unfolding befores
  befores_at user h = get_or-tabulate _ (length a.entries.now) user (pos 0) h

-- lists in range are lists of small numbers
pub record Small (a : Amounts) : Type 0 where
  pub entry : AtMost entry_most a.entries.now
  pub exit : AtMost exit_most a.exits.now
  pub title : AtMost title_most a.titles.now
  pub pooling : AtMost pooling_most a.poolings.now

pub amounts_small : (a : Amounts) → all_fit a ≡ true → Small a
unfolding all_fit
amounts_small a fit =
    let k = and_true (every entry_fit a.entries.now) _ fit in
    let l = and_true (every exit_fit a.exits.now) _ k.1 in
    let m = and_true (every title_fit a.titles.now) (every pooling_fit a.poolings.now) l.1 in
    record {
      entry = entries_small a.entries.now k.0;
      exit = exits_small a.exits.now l.0;
      title = titles_small a.titles.now m.0;
      pooling = poolings_small a.poolings.now m.1;
    }

-- the positions before settlement, by rule 1, whatever is lent to be filled
pub before_is : (d : Day) (t : List ℤ) (k : HourTerms) (a : Amounts) (q m : List ℤ) (s : List ℕ) → length a.entries.now ≡ users d
    → before d t (hour_listed k a.entries.now a.exits.now a.titles.now a.poolings.now q m s) ≡ befores (part k.zone t) a
unfolding before befores before_at amounts_at place amounts
before_is d t k a q m s e = rw e

pub one_length : (a : Amounts) {n : ℕ} → AmountLengths n a.entries.now a.exits.now a.titles.now a.poolings.now → OneLength a
one_length a l = record { exits = l.exits ∙ sym l.entries; titles = l.titles ∙ sym l.entries; poolings = l.poolings ∙ sym l.entries }

-- what an hour's inputs are that have no cause: amounts in range, and positions before in range
pub inputs_fit : (d : Day) (t : List ℤ) (k : HourTerms) (a : Amounts) (q m : List ℤ) (s : List ℕ)
    → Sound d t k.zone → AmountLengths (users d) a.entries.now a.exits.now a.titles.now a.poolings.now
    → InputsFit d t (hour_listed k a.entries.now a.exits.now a.titles.now a.poolings.now q m s)
    → Fit (part k.zone t) a
unfolding amounts_fit before_fit all_fit
inputs_fit d t k a q m s sound l f = record {
  range = record {
    lent = record {
      lists = one_length a l;
      few = omega (arith, l.entries, sound.few);
      room = omega (arith, l.entries, sound.few, length_part t sound.long sound.zoned);
      positions = part-fits k.zone d t f.table;
    };
    fit = f.amounts;
  };
  positions = rw (before_is d t k a q m s l.entries) at f.positions;
}

-- What an accepted hour and an accepted closing may count on: all that the causes rule out. Assumes nothing.
use mathlib.Core.Path.{◌≡◌, refl, sym, ap, ◌∙◌}
use mathlib.Core.Bool.{true, false, ◌&&◌}
use mathlib.Core.Logic.{◌⊎◌, inl, inr}
use mathlib.Core.List.{List}
use Prim.Native.Nat.{ℕ, ◌≤◌, ◌<◌}
use native.Mathlib.Omega.{arith}
use native.Mathlib.Nat.{eq-or-lt_of_le}
use borrow.Author.Tests.{leb-true, eqb-true, not-true}
use lib.Dec.{leb}
use lib.IntN.{ℤ, pos, negsuc, neg_ℤ}
use lib.ListN.{length}
use lib.Signed.{le_z}
use Rattle.std.specs.Prelude.{Ok}
use Rattle.integers.specs.Lists.{every}
use Rattle.integers.proofs.Passes.{every_take, every_drop}
use Rattle.integers.specs.Ranges.{natural}
use Rattle.integers.proofs.Linear.{not_both}
use Rattle.integers.proofs.Tests.{and_true}
use Rattle.rules.specs.declared.Day.{Day}
use Rattle.rules.specs.declared.HourTerms.{HourTerms}
use Rattle.rules.specs.Limits.{length_least, length_most, threshold_most, users_fit, length_fit, zone_fit, position_fit, upper_fit, lower_fit}
use Rattle.rules.specs.Days.{users, is_closed, first_place, part}
use Rattle.rules.specs.Hours.{Hour, Closing}
use Rattle.rules.specs.Causes.{inputs_cause, hour_cause, closing_cause, day_fit, table_long, list_long, scratch_long, amounts_long, hour_long, judge_long, closing_long, zone_open, hour_next, all_done, positions_fit, table_fit, prices_fit, terms_fit, amounts_fit, pooling_adds, before_fit, totals_bounded}
use Rattle.rules.specs.Market.{hour_sums, closing_sums}
use Rattle.rules.specs.Refusals.{number}
use Rattle.rules.specs.Answers.{hour_answer, hour_number, closing_answer, closing_number, number_by}
use Rattle.rules.specs.Guarantees.{InputsFit, HourFit, ClosingFit}
use Rattle.rules.proofs.Refusing.{unless_none, then_none, required, number_none, number_with_day}
use Rattle.rules.proofs.Zones.{Zone, zone_of_lem}

-- ---- an hour is accepted if and only if no listed cause exists
module _ (d : Day) (t : List ℤ) (g : Hour) where
  pub inputs_fit_lem : inputs_cause d t g ≡ Ok tt → InputsFit d t g
  unfolding inputs_cause
  inputs_fit_lem none =
      let (zone, n5) = required (zone_fit g.terms.zone) _ _ none in
      let (open', n6) = required (zone_open g.terms.zone d) _ _ n5 in
      let (next, n7) = required (hour_next d g.terms) _ _ n6 in
      let (table, n8) = required (table_fit d t) _ _ n7 in
      let (terms, n9) = required (terms_fit g.terms) _ _ n8 in
      let (amounts, n10) = required (amounts_fit g) _ _ n9 in
      let (pooling, n11) = required (pooling_adds g) _ _ n10 in
      record {
        zone = zone;
        open' = open';
        next = next;
        table = table;
        terms = terms;
        amounts = amounts;
        pooling = pooling;
        positions = unless_none (before_fit d t g) _ n11;
      }

  pub fit_inputs : InputsFit d t g → inputs_cause d t g ≡ Ok tt
  unfolding inputs_cause
  fit_inputs f = rw (f.zone, f.open', f.next, f.table, f.terms, f.amounts, f.pooling, f.positions)

  pub hour_fit_lem : hour_cause d t g ≡ Ok tt → HourFit d t g
  unfolding hour_cause
  hour_fit_lem none =
      let (day, n3) = required (day_fit d) _ _ none in
      let (lengths, n4) = required (hour_long d t g) _ _ n3 in
      let (inputs, n25) = then_none n4 in
      record {
        day = day;
        lengths = lengths;
        inputs = inputs_fit_lem inputs;
        totals = unless_none (totals_bounded g.terms.zone (hour_sums d t g) d) _ n25;
      }

  pub fit_hour : HourFit d t g → hour_cause d t g ≡ Ok tt
  unfolding hour_cause
  fit_hour f = rw (f.day, f.lengths, fit_inputs f.inputs, f.totals) refl

  pub hour_number_lem : hour_number (hour_answer d t g) ≡ number_by number (hour_cause d t g)
  unfolding hour_number hour_answer
  hour_number_lem = number_with_day d (hour_cause d t g) _

  pub hour_none : hour_number (hour_answer d t g) ≡ 0 → hour_cause d t g ≡ Ok tt
  hour_none e = number_none (hour_cause d t g) (sym hour_number_lem ∙ e)

-- ---- a closing is accepted if and only if no listed cause exists
module _ (d : Day) (t : List ℤ) (g : Closing) where
  pub closing_fit : closing_cause d t g ≡ Ok tt → ClosingFit d t g
  unfolding closing_cause
  closing_fit none =
      let (day, n3) = required (day_fit d) _ _ none in
      let (lengths, n4) = required (closing_long d t g) _ _ n3 in
      let (zone, n5) = required (zone_fit g.terms.zone) _ _ n4 in
      let (open', n6) = required (zone_open g.terms.zone d) _ _ n5 in
      let (done, n7) = required (all_done d g.terms) _ _ n6 in
      let (table, n8) = required (table_fit d t) _ _ n7 in
      let (prices, n25) = required (prices_fit g.terms.excess_price g.terms.shortfall_price) _ _ n8 in
      record {
        day = day;
        lengths = lengths;
        zone = zone;
        open' = open';
        done = done;
        table = table;
        prices = prices;
        totals = unless_none (totals_bounded g.terms.zone (closing_sums d t g) d) _ n25;
      }

  pub fit_closing : ClosingFit d t g → closing_cause d t g ≡ Ok tt
  unfolding closing_cause
  fit_closing f = rw (f.day, f.lengths, f.zone, f.open', f.done, f.table, f.prices, f.totals) refl

  pub closing_number_lem : closing_number (closing_answer d t g) ≡ number_by number (closing_cause d t g)
  unfolding closing_number closing_answer
  closing_number_lem = number_with_day d (closing_cause d t g) _

  pub closing_none : closing_number (closing_answer d t g) ≡ 0 → closing_cause d t g ≡ Ok tt
  closing_none e = number_none (closing_cause d t g) (sym closing_number_lem ∙ e)

-- ---- what both may count on, in plain numbers
pub record Sound (d : Day) (t : List ℤ) (zone : ℤ) : Type 0 where
  pub some : 1 ≤ users d
  pub few : users d ≤ 128
  pub long : length t ≡ 256
  pub zoned : Zone zone

pub users_range : (n : ℤ) → users_fit n ≡ true → (1 ≤ natural n) × (natural n ≤ 128)
unfolding users_fit natural
users_range (pos n) e = let k = and_true (leb 1 n) (leb n 128) e in (leb-true 1 n k.0, leb-true n 128 k.1)
users_range (negsuc n) e = not_both (sym e)

-- which lengths fit
pub length_of : (len : ℤ) → length_fit len ≡ true → (len ≡ pos 23) ⊎ ((len ≡ pos 24) ⊎ (len ≡ pos 25))
unfolding length_fit
length_of (pos n) e =
    let k = and_true (leb length_least n) (leb n length_most) e in
    from_23 (eq-or-lt_of_le (leb-true length_least n k.0)) (leb-true n length_most k.1)
  where
    from_24 : (24 ≡ n) ⊎ (24 < n) → n ≤ length_most → (pos n ≡ pos 24) ⊎ (pos n ≡ pos 25)
    from_24 (inl q) m = inl (ap pos (sym q))
    from_24 (inr l) m = inr (ap pos (omega arith))

    from_23 : (23 ≡ n) ⊎ (23 < n) → n ≤ length_most → (pos n ≡ pos 23) ⊎ ((pos n ≡ pos 24) ⊎ (pos n ≡ pos 25))
    from_23 (inl q) m = inl (ap pos (sym q))
    from_23 (inr l) m = inr (from_24 (eq-or-lt_of_le l) m)
length_of (negsuc n) e = not_both (sym e)

pub users_of_lem : (d : Day) → day_fit d ≡ true → (1 ≤ users d) × (users d ≤ 128)
unfolding day_fit users
users_of_lem d e = users_range d.users (and_true (users_fit d.users) _ e).0

pub table_long_lem : (t : List ℤ) → table_long t ≡ true → length t ≡ 256
unfolding table_long
table_long_lem t e = eqb-true (length t) 256 e

pub sound_of : (d : Day) (t : List ℤ) (zone : ℤ) → day_fit d ≡ true → table_long t ≡ true → zone_fit zone ≡ true → Sound d t zone
sound_of d t zone day long zoned =
    let n = users_of_lem d day in
    record { some = n.0; few = n.1; long = table_long_lem t long; zoned = zone_of_lem zone zoned }

pub hour_sound : (d : Day) (t : List ℤ) (g : Hour) → hour_cause d t g ≡ Ok tt → Sound d t g.terms.zone
unfolding hour_long
hour_sound d t g k =
    let f = hour_fit_lem d t g k in
    sound_of d t g.terms.zone f.day (and_true (table_long t) _ f.lengths).0 f.inputs.zone

pub closing_sound : (d : Day) (t : List ℤ) (g : Closing) → closing_cause d t g ≡ Ok tt → Sound d t g.terms.zone
unfolding closing_long
closing_sound d t g k =
    let f = closing_fit d t g k in
    sound_of d t g.terms.zone f.day (and_true (table_long t) _ f.lengths).0 f.zone

-- ---- and that the zone is not closed
open_zone : (zone : ℤ) (d : Day) → zone_open zone d ≡ true → is_closed zone d ≡ false
unfolding zone_open
open_zone zone d e = not-true (is_closed zone d) e

pub hour_open : (d : Day) (t : List ℤ) (g : Hour) → hour_cause d t g ≡ Ok tt → is_closed g.terms.zone d ≡ false
hour_open d t g k = open_zone g.terms.zone d (hour_fit_lem d t g k).inputs.open'

pub closing_open : (d : Day) (t : List ℤ) (g : Closing) → closing_cause d t g ≡ Ok tt → is_closed g.terms.zone d ≡ false
closing_open d t g k = open_zone g.terms.zone d (closing_fit d t g k).open'

-- ---- the lists and the scratch have a place for each user
pub record AmountLengths (n : ℕ) (entry exit title pooling : List ℤ) : Type 0 where
  pub entries : length entry ≡ n
  pub exits : length exit ≡ n
  pub titles : length title ≡ n
  pub poolings : length pooling ≡ n

amount_lengths : (d : Day) (g : Hour) → amounts_long d g ≡ true → AmountLengths (users d) g.entry g.exit g.title g.pooling
unfolding amounts_long list_long
amount_lengths d g h =
    let e = and_true (list_long d g.entry) _ h in
    let x = and_true (list_long d g.exit) _ e.1 in
    let n = and_true (list_long d g.title) (list_long d g.pooling) x.1 in
    record {
      entries = eqb-true _ _ e.0;
      exits = eqb-true _ _ x.0;
      titles = eqb-true _ _ n.0;
      poolings = eqb-true _ _ n.1;
    }

pub record HourLengths (n : ℕ) (g : Hour) : Type 0 where
  pub amounts : AmountLengths n g.entry g.exit g.title g.pooling
  pub quantities : length g.quantity ≡ n
  pub moneys : length g.money ≡ n
  pub scratches : length g.scratch ≡ n

pub hour_lengths : (d : Day) (t : List ℤ) (g : Hour) → hour_long d t g ≡ true → HourLengths (users d) g
unfolding hour_long list_long scratch_long
hour_lengths d t g h =
    let a = and_true (amounts_long d g) _ (and_true (table_long t) _ h).1 in
    let q = and_true (list_long d g.quantity) _ a.1 in
    let m = and_true (list_long d g.money) _ q.1 in
    record {
      amounts = amount_lengths d g a.0;
      quantities = eqb-true _ _ q.0;
      moneys = eqb-true _ _ m.0;
      scratches = eqb-true _ _ m.1;
    }

pub record JudgeLengths (n : ℕ) (g : Hour) (qs : List ℤ) : Type 0 where
  pub amounts : AmountLengths n g.entry g.exit g.title g.pooling
  pub quantities : length qs ≡ n

pub judge_lengths : (d : Day) (t : List ℤ) (g : Hour) (qs : List ℤ) → judge_long d t g qs ≡ true → JudgeLengths (users d) g qs
unfolding judge_long list_long
judge_lengths d t g qs h =
    let a = and_true (amounts_long d g) (list_long d qs) (and_true (table_long t) _ h).1 in
    record { amounts = amount_lengths d g a.0; quantities = eqb-true _ _ a.1 }

pub record ClosingLengths (n : ℕ) (g : Closing) : Type 0 where
  pub quantities : length g.quantity ≡ n
  pub moneys : length g.money ≡ n

pub closing_lengths : (d : Day) (t : List ℤ) (g : Closing) → closing_long d t g ≡ true → ClosingLengths (users d) g
unfolding closing_long list_long
closing_lengths d t g h =
    let l = and_true (list_long d g.quantity) (list_long d g.money) (and_true (table_long t) _ h).1 in
    record { quantities = eqb-true _ _ l.0; moneys = eqb-true _ _ l.1 }

-- ---- a table that fits has its positions in range, part by part
pub part-fits : (zone : ℤ) (d : Day) (t : List ℤ) → table_fit d t ≡ true → every position_fit (part zone t) ≡ true
unfolding table_fit positions_fit part
part-fits zone d t e = every_take position_fit 128 _ (every_drop position_fit (first_place zone) t (and_true (every position_fit t) _ e).0)

-- ---- no threshold is on the wrong side of zero
pub thresholds_sound : (k : HourTerms) → terms_fit k ≡ true → (le_z (pos 0) k.upper ≡ true) × (le_z k.lower (pos 0) ≡ true)
unfolding terms_fit upper_fit lower_fit
thresholds_sound k e =
    let both = and_true (upper_fit k.upper) (lower_fit k.lower) (and_true (upper_fit k.upper && lower_fit k.lower) _ e).0 in
    ((and_true (le_z (pos 0) k.upper) _ both.0).0, (and_true (le_z (neg_ℤ (pos threshold_most)) k.lower) (le_z k.lower (pos 0)) both.1).1)

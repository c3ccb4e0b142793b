-- A day of our own: a record passed on as our calls answered it is fit, and its totals no larger than the hours done and the closing can make them, whatever table each call was given; and a
-- table passed on too is fit. Assumes nothing.
use mathlib.Core.Path.{◌≡◌, refl, ap, ◌∙◌}
use mathlib.Core.Bool.{Bool, true, false, cond, not, ◌&&◌, ◌||◌, or-true}
use mathlib.Core.Logic.{◌⊎◌, inl, inr}
use mathlib.Core.List.{List, [], ◌∷◌}
use Prim.Native.Nat.{ℕ, zero, suc, ◌+◌, ◌*◌, ◌≤◌}
use native.Mathlib.Omega.{arith}
use lib.IntN.{ℤ, pos, nat_abs, ◌+ℤ◌}
use lib.ListN.{length, get_or, drop, replicate, length-take, length-replicate}
use lib.Seq.{drop_at}
use lib.Signed.{le_z}
use Rattle.std.specs.Prelude.{Ok, Err}
use Rattle.integers.specs.Ranges.{in_range, equal, is_zero}
use Rattle.integers.specs.Lists.{bit, sum_ℤ, every, AtMost}
use Rattle.rules.specs.declared.Cause.{Cause}
use Rattle.rules.specs.declared.Day.{Day}
use Rattle.rules.specs.declared.ZoneDay.{ZoneDay}
use Rattle.rules.specs.Limits.{length_least, length_most, zone_fit, users_most, position_most, market_most, total_most, users_fit, length_fit, total_fit, position_fit}
use Rattle.rules.specs.Days.{users, hours_of_day, new_zone_day, new_day, zone_day, hours_done, is_closed, total_sold, total_bought, hour_more, closed_now, first_place, part, onto}
use Rattle.rules.specs.Hours.{Hour, Closing, before, standing}
use Rattle.rules.specs.Causes.{zone_day_fit, totals_fit, day_fit, beyond_zero, idle_zero, table_fit, hour_next, zone_open, all_done, before_fit, totals_bounded, open_cause, hour_cause, closing_cause}
use Rattle.rules.specs.Market.{imbalance, quantities, after, sold, bought, hour_imbalance, hour_sums, closing_sums}
use Rattle.rules.specs.Answers.{hour_answer, hour_table, hour_day, closing_answer, closing_table, closing_day}
use Rattle.rules.proofs.Refusing.{cause_of, by_some}
use Rattle.rules.proofs.Accepted.{users_of_lem, hour_fit_lem, closing_fit, thresholds_sound, hour_open, closing_open, part-fits, hour_sound, closing_sound}
use Rattle.rules.proofs.Settling.{view, settles, own_small, length-after, length-quantities}
use Rattle.rules.proofs.Small.{length_small, positions_small}
use Rattle.rules.proofs.Conserving.{length_before, hour_long_still, closing_long_still, open_fit, open_length, open_table_lem, hour_part, hour_other, closing_part, closing_other, hour_refused, closing_refused, hour_day_lem, closing_day_lem, step_keeps, users-step}
use Rattle.rules.proofs.Carrying.{hour_zone_day, closing_zone_day}
use Rattle.rules.specs.Guarantees.{InputsFit}
use Rattle.rules.proofs.Totals.{sold_small, bought_small, both_not_below, sold_not_below, bought_not_below}
use Rattle.rules.proofs.Zones.{Zone, zone_of_lem, of_both, H, L, Keeps, parts_fit}
use Rattle.integers.proofs.Linear.{lin1, lin2, diffs, linear}
use Rattle.integers.proofs.Sizes.{size-add}
use Rattle.integers.proofs.Passes.{every_append, every_take, every_drop}
use Rattle.integers.proofs.Tests.{and_true, both_true, equal_true, equal_false}
use borrow.Author.Tests.{ne_eqb, not-true}
use Rattle.rules.specs.History.{Call, hour, closing, State, opened, step, run, passed_on}

-- ---- a zone's part of the record that fits, of a day of len hours
record RecordFits (len : ℤ) (z : ZoneDay) : Type 0 where
  hours : in_range (pos 0) len z.hours ≡ true
  closed : (not z.closed || le_z len z.hours) ≡ true
  none : (not (is_zero z.hours) || (is_zero z.sold && is_zero z.bought)) ≡ true
  sold : total_fit z.sold ≡ true
  bought : total_fit z.bought ≡ true

-- a zone's part p of the table that fits, of n users
record PlacesFit (n : ℕ) (z : ZoneDay) (p : List ℤ) : Type 0 where
  positions : every position_fit p ≡ true
  beyond : every is_zero (drop n p) ≡ true
  idle : (not (z.closed || is_zero z.hours) || every is_zero p) ≡ true

-- totals within what so many calls can sell and buy: the hours done, and the closing
abbrev turns : ZoneDay → ℕ
turns z = nat_abs z.hours + bit z.closed

record Earned (z : ZoneDay) : Type 0 where
  sold : nat_abs z.sold ≤ turns z * market_most
  bought : nat_abs z.bought ≤ turns z * market_most

record ZoneOwn (len : ℤ) (z : ZoneDay) : Type 0 where
  record' : RecordFits len z
  earned : Earned z

-- ---- small facts of numbers
one_more : (h : ℤ) → le_z (pos 0) h ≡ true → le_z (pos 0) (h +ℤ pos 1) ≡ true
one_more = lin1 _ (λ a b. simp diffs (omega linear))

one_more_size : (h : ℤ) → le_z (pos 0) h ≡ true → nat_abs (h +ℤ pos 1) ≡ nat_abs h + 1
one_more_size = lin1 _ (λ a b. simp diffs (omega linear))

some : (h : ℤ) → 1 ≤ nat_abs h → is_zero h ≡ false
some h e = ne_eqb (nat_abs h) 0 (λ z. omega (arith, z, e))

all_hours : (len h : ℤ) → le_z (pos length_least) len ≡ true → le_z len h ≡ true → 1 ≤ nat_abs h
all_hours = lin2 _ (λ a b c d. simp diffs (omega linear))

every_replicate : {A : Type 0} (p : A → Bool) (x : A) → p x ≡ true → (n : ℕ) → every p (replicate n x) ≡ true
unfolding every
every_replicate p x h zero = refl
every_replicate p x h (suc n) = both_true h (every_replicate p x h n)

every_of : {A : Type 0} (p : A → Bool) (z : A) (xs : List A) → ((i : ℕ) → p (get_or xs i z) ≡ true) → every p xs ≡ true
unfolding every
every_of p z [] h = refl
every_of p z (x ∷ xs) h = both_true (h 0) (every_of p z xs (λ i. h (suc i)))

-- ---- what an accepted call adds to totals that fit fits
module _ (z : ZoneDay) (qs : List ℤ) where
  added_fits : total_fit z.sold ≡ true → total_fit z.bought ≡ true
      → (le_z (z.sold +ℤ sold qs) (pos total_most) && le_z (z.bought +ℤ bought qs) (pos total_most)) ≡ true
      → (total_fit (z.sold +ℤ sold qs) ≡ true) × (total_fit (z.bought +ℤ bought qs) ≡ true)
  unfolding total_fit
  added_fits s b e =
      let k = and_true (le_z (z.sold +ℤ sold qs) (pos total_most)) _ e in (
        both_true (both_not_below z.sold (sold qs) (and_true (le_z (pos 0) z.sold) _ s).0 (sold_not_below qs)) k.0,
        both_true (both_not_below z.bought (bought qs) (and_true (le_z (pos 0) z.bought) _ b).0 (bought_not_below qs)) k.1,
      )

  -- one turn more
  added_earned : (z' : ZoneDay) → length qs ≤ users_most → AtMost position_most qs → z'.sold ≡ z.sold +ℤ sold qs → z'.bought ≡ z.bought +ℤ bought qs
      → turns z' ≡ turns z + 1 → Earned z → Earned z'
  added_earned z' few small s b more e = record {
    sold = rw s (omega (arith, size-add z.sold (sold qs), sold_small qs few small, e.sold, more));
    bought = rw b (omega (arith, size-add z.bought (bought qs), bought_small qs few small, e.bought, more));
  }

-- ---- the same of a whole record, and of record and table
pub record OwnDay (d : Day) : Type 0 where
  users' : users_fit d.users ≡ true
  length' : length_fit (hours_of_day d) ≡ true
  zone : (y : ℤ) → Zone y → ZoneOwn (hours_of_day d) (zone_day y d)

pub record Own (s : State) : Type 0 where
  pub day' : OwnDay s.day
  long : length s.table ≡ 256
  places : (y : ℤ) → Zone y → PlacesFit (users s.day) (zone_day y s.day) (part y s.table)

pub own_day : {d : Day} → OwnDay d → day_fit d ≡ true
unfolding day_fit zone_day_fit totals_fit hours_done is_closed total_sold total_bought
own_day o =
    let h = (o.zone (pos 0) H).record' in
    let l = (o.zone (pos 1) L).record' in
    both_true o.users' (both_true o.length' (both_true
    (both_true (both_true h.hours h.closed) (both_true l.hours l.closed))
    (both_true (both_true h.none (both_true h.sold h.bought)) (both_true l.none (both_true l.sold l.bought)))))

pub own_table : {s : State} → Own s → table_fit s.day s.table ≡ true
unfolding table_fit beyond_zero idle_zero hours_done is_closed
own_table {s} o =
    let h = o.places (pos 0) H in
    let l = o.places (pos 1) L in
    rw (parts_fit s.table o.long, h.positions, l.positions, h.beyond, l.beyond, h.idle, l.idle) refl

-- ---- an hour's quantities are of few users, and small
module _ (d : Day) (t : List ℤ) (g : Hour) where
  quantities_few : users d ≤ users_most → length (quantities (hour_imbalance d t g) (before d t g)) ≤ users_most
  quantities_few few = omega (arith, length-quantities (hour_imbalance d t g) (before d t g), length_before d t g, few)

  quantities_small : InputsFit d t g → AtMost position_most (quantities (hour_imbalance d t g) (before d t g))
  unfolding hour_imbalance imbalance before_fit
  quantities_small f =
      let b = thresholds_sound g.terms f.terms in
      own_small g.terms.upper g.terms.lower (before d t g) b.0 b.1 f.positions (view g.terms.upper g.terms.lower (sum_ℤ (before d t g)))

-- ---- an accepted hour, in its own zone
module _ (d : Day) (t : List ℤ) (g : Hour) (k : hour_cause d t g ≡ Ok tt) where
  abbrev z : ZoneDay
  z = zone_day g.terms.zone d

  abbrev ps : List ℤ
  ps = before d t g

  abbrev qs : List ℤ
  qs = quantities (hour_imbalance d t g) ps

  open' : z.closed ≡ false
  unfolding zone_day is_closed
  open' = hour_open d t g k

  -- one hour more is some
  more : RecordFits (hours_of_day d) z → is_zero (z.hours +ℤ pos 1) ≡ false
  more r = some (z.hours +ℤ pos 1) (omega (arith, one_more_size z.hours (and_true (le_z (pos 0) z.hours) _ r.hours).0))

  hour_zone_own : ZoneOwn (hours_of_day d) z → ZoneOwn (hours_of_day d) (hour_more (hour_sums d t g) z)
  unfolding hour_more hour_sums hour_next totals_bounded hours_done total_sold total_bought
  hour_zone_own o =
      let f = hour_fit_lem d t g k in
      let next = and_true (equal g.terms.hour (z.hours +ℤ pos 1)) _ f.inputs.next in
      let begun = (and_true (le_z (pos 0) z.hours) _ o.record'.hours).0 in
      let few = quantities_few d t g (hour_sound d t g k).few in
      let added = added_fits z qs o.record'.sold o.record'.bought f.totals in
      record {
        record' = record {
          hours = both_true (one_more z.hours begun) (rw (equal_true g.terms.hour (z.hours +ℤ pos 1) next.0) at next.1);
          closed = rw open' refl;
          none = rw (more o.record') refl;
          sold = added.0;
          bought = added.1;
        };
        earned = added_earned z qs _ few (quantities_small d t g f.inputs) refl refl
            (rw open' (omega (arith, one_more_size z.hours begun))) o.earned;
      }

  hour_places : ZoneOwn (hours_of_day d) z → PlacesFit (users d) z (part g.terms.zone t)
      → PlacesFit (users d) (hour_more (hour_sums d t g) z) (onto (after (hour_imbalance d t g) ps) (part g.terms.zone t))
  unfolding hour_more onto before_fit hour_imbalance imbalance
  hour_places o places =
      let f = (hour_fit_lem d t g k).inputs in
      let b = thresholds_sound g.terms f.terms in
      let rs = after (hour_imbalance d t g) ps in
      let p = part g.terms.zone t in
      let long : length rs ≡ users d = length-after (hour_imbalance d t g) ps ∙ length_before d t g in
      let fits = every_of position_fit (pos 0) rs (λ u. ((settles g.terms.upper g.terms.lower ps b.0 b.1 f.positions).kept.each u).in_range) in
      record {
        positions = rw (every_append position_fit rs (drop (length rs) p)) (both_true fits (every_drop position_fit (length rs) p places.positions));
        beyond = rw (long, drop_at rs (drop (users d) p) (users d) long) places.beyond;
        idle = rw (open', more o.record') refl;
      }

-- ---- an accepted closing, in its own zone
module _ (d : Day) (t : List ℤ) (g : Closing) (k : closing_cause d t g ≡ Ok tt) where
  abbrev cz : ZoneDay
  cz = zone_day g.terms.zone d

  abbrev cqs : List ℤ
  cqs = standing d t g

  closing_zone_own : length_fit (hours_of_day d) ≡ true → ZoneOwn (hours_of_day d) cz → ZoneOwn (hours_of_day d) (closed_now (closing_sums d t g) cz)
  unfolding length_fit closed_now closing_sums all_done totals_bounded hours_done total_sold total_bought is_closed standing
  closing_zone_own len o =
      let f = closing_fit d t g k in
      let fits = part-fits g.terms.zone d t f.table in
      let long = and_true (le_z (pos length_least) (hours_of_day d)) _ len in
      let begun : is_zero cz.hours ≡ false = some cz.hours (all_hours (hours_of_day d) cz.hours long.0 f.done) in
      let open' : cz.closed ≡ false = closing_open d t g k in
      let few : length cqs ≤ users_most = simp length-take (omega (arith, (closing_sound d t g k).few)) in
      let added = added_fits cz cqs o.record'.sold o.record'.bought f.totals in
      record {
        record' = record {
          hours = o.record'.hours;
          closed = f.done;
          none = rw begun refl;
          sold = added.0;
          bought = added.1;
        };
        earned = added_earned cz cqs _ few (positions_small _ (every_take position_fit (users d) _ fits)) refl refl (rw open' (omega arith)) o.earned;
      }

-- whatever the zone's part of the record
zeros_fit : (n : ℕ) (z : ZoneDay) → PlacesFit n z (replicate 128 (pos 0))
unfolding position_fit
zeros_fit n z =
    let zeros = every_replicate is_zero (pos 0) refl 128 in
    record {
      positions = every_replicate position_fit (pos 0) refl 128;
      beyond = every_drop is_zero n (replicate 128 (pos 0)) zeros;
      idle = rw zeros (or-true _);
    }

-- ---- a call leaves a record of our own, accepted or refused, whatever table it is given
still_own : {d d' : Day} → OwnDay d → Keeps d' d → ((y : ℤ) → Zone y → ZoneOwn (hours_of_day d) (zone_day y d')) → OwnDay d'
unfolding hours_of_day zone_day
still_own o keeps zones = record {
  users' = rw keeps.users o.users';
  length' = rw keeps.length o.length';
  zone = λ y zoned. rw keeps.length (zones y zoned);
}

hour_own : (s : State) (g : Hour) → hour_cause s.day s.table g ≡ Ok tt → OwnDay s.day → OwnDay (step s (hour g)).day
unfolding step
hour_own s g k o = still_own o (step_keeps s (hour g)) zones
  where
    zones : (y : ℤ) → Zone y → ZoneOwn (hours_of_day s.day) (zone_day y (hour_day (hour_answer s.day s.table g)))
    zones y zoned = rw (hour_zone_day y zoned s.day s.table g k) (go (equal g.terms.zone y) refl)
      where
        go : (b : Bool) → equal g.terms.zone y ≡ b → ZoneOwn (hours_of_day s.day) (cond b (hour_more (hour_sums s.day s.table g) (zone_day y s.day)) (zone_day y s.day))
        go true e = rw (← equal_true g.terms.zone y e) (hour_zone_own s.day s.table g k (o.zone g.terms.zone (hour_sound s.day s.table g k).zoned))
        go false e = o.zone y zoned

closing_own : (s : State) (g : Closing) → closing_cause s.day s.table g ≡ Ok tt → OwnDay s.day → OwnDay (step s (closing g)).day
unfolding step
closing_own s g k o = still_own o (step_keeps s (closing g)) zones
  where
    zones : (y : ℤ) → Zone y → ZoneOwn (hours_of_day s.day) (zone_day y (closing_day (closing_answer s.day s.table g)))
    zones y zoned = rw (closing_zone_day y zoned s.day s.table g k) (go (equal g.terms.zone y) refl)
      where
        go : (b : Bool) → equal g.terms.zone y ≡ b → ZoneOwn (hours_of_day s.day) (cond b (closed_now (closing_sums s.day s.table g) (zone_day y s.day)) (zone_day y s.day))
        go true e = rw (← equal_true g.terms.zone y e) (closing_zone_own s.day s.table g k o.length' (o.zone g.terms.zone (closing_sound s.day s.table g k).zoned))
        go false e = o.zone y zoned

own_day_step : (s : State) (c : Call) → OwnDay s.day → OwnDay (step s c).day
unfolding step
own_day_step s (hour g) o = go (cause_of (hour_cause s.day s.table g))
  where
    go : (hour_cause s.day s.table g ≡ Ok tt) ⊎ ((k : Cause) × (hour_cause s.day s.table g ≡ Err k)) → OwnDay (step s (hour g)).day
    go (inl k) = hour_own s g k o
    go (inr k) = rw (hour_day_lem s.day s.table g, by_some (hour_cause s.day s.table g) _ _ k.1) o
own_day_step s (closing g) o = go (cause_of (closing_cause s.day s.table g))
  where
    go : (closing_cause s.day s.table g ≡ Ok tt) ⊎ ((k : Cause) × (closing_cause s.day s.table g ≡ Err k)) → OwnDay (step s (closing g)).day
    go (inl k) = closing_own s g k o
    go (inr k) = rw (closing_day_lem s.day s.table g, by_some (closing_cause s.day s.table g) _ _ k.1) o

pub own_passed_on : (d : Day) (cs : List (List ℤ × Call)) → OwnDay d → OwnDay (passed_on d cs)
unfolding passed_on
own_passed_on d [] o = o
own_passed_on d (c ∷ cs) o =
    let s : State = record { day = d; table = c.0 } in
    own_passed_on (step s c.1).day cs (own_day_step s c.1 o)

-- ---- and where the table is passed on too, a table of our own
hour_places_own : (s : State) (g : Hour) (k : hour_cause s.day s.table g ≡ Ok tt) → Own s
    → (y : ℤ) → Zone y → PlacesFit (users s.day) (zone_day y (hour_day (hour_answer s.day s.table g))) (part y (hour_table s.day s.table g))
hour_places_own s g k o y zoned = rw (hour_zone_day y zoned s.day s.table g k) (go (equal g.terms.zone y) refl)
  where
    go : (b : Bool) → equal g.terms.zone y ≡ b
        → PlacesFit (users s.day) (cond b (hour_more (hour_sums s.day s.table g) (zone_day y s.day)) (zone_day y s.day)) (part y (hour_table s.day s.table g))
    go true e =
        let zoned = (hour_sound s.day s.table g k).zoned in
        rw (← equal_true g.terms.zone y e, hour_part s.day s.table g k) (hour_places s.day s.table g k (o.day'.zone g.terms.zone zoned) (o.places g.terms.zone zoned))
    go false e = rw (hour_other s.day s.table g k y zoned (equal_false g.terms.zone y e)) (o.places y zoned)

closing_places_own : (s : State) (g : Closing) (k : closing_cause s.day s.table g ≡ Ok tt) → Own s
    → (y : ℤ) → Zone y → PlacesFit (users s.day) (zone_day y (closing_day (closing_answer s.day s.table g))) (part y (closing_table s.day s.table g))
closing_places_own s g k o y zoned = rw (closing_zone_day y zoned s.day s.table g k) (go (equal g.terms.zone y) refl)
  where
    go : (b : Bool) → equal g.terms.zone y ≡ b
        → PlacesFit (users s.day) (cond b (closed_now (closing_sums s.day s.table g) (zone_day y s.day)) (zone_day y s.day)) (part y (closing_table s.day s.table g))
    go true e = rw (← equal_true g.terms.zone y e, closing_part s.day s.table g k) (zeros_fit (users s.day) _)
    go false e = rw (closing_other s.day s.table g k y zoned (equal_false g.terms.zone y e)) (o.places y zoned)

own_step : (s : State) (c : Call) → Own s → Own (step s c)
unfolding step
own_step s (hour g) o = go (cause_of (hour_cause s.day s.table g))
  where
    go : (hour_cause s.day s.table g ≡ Ok tt) ⊎ ((k : Cause) × (hour_cause s.day s.table g ≡ Err k)) → Own (step s (hour g))
    go (inl k) = record {
      day' = hour_own s g k o.day';
      long = hour_long_still s.day s.table g k;
      places = λ y zoned. rw (users-step s (hour g)) (hour_places_own s g k o y zoned);
    }
    go (inr k) = rw (hour_day_lem s.day s.table g, by_some (hour_cause s.day s.table g) _ _ k.1, hour_refused s.day s.table g k.1) o
own_step s (closing g) o = go (cause_of (closing_cause s.day s.table g))
  where
    go : (closing_cause s.day s.table g ≡ Ok tt) ⊎ ((k : Cause) × (closing_cause s.day s.table g ≡ Err k)) → Own (step s (closing g))
    go (inl k) = record {
      day' = closing_own s g k o.day';
      long = closing_long_still s.day s.table g k;
      places = λ y zoned. rw (users-step s (closing g)) (closing_places_own s g k o y zoned);
    }
    go (inr k) = rw (closing_day_lem s.day s.table g, by_some (closing_cause s.day s.table g) _ _ k.1, closing_refused s.day s.table g k.1) o

pub own_run : (s : State) (cs : List Call) → Own s → Own (run s cs)
unfolding run
own_run s [] o = o
own_run s (c ∷ cs) o = own_run (step s c) cs (own_step s c o)

-- ---- and opening begins one
every_part : (p : ℤ → Bool) → p (pos 0) ≡ true → (y : ℤ) → every p (part y (replicate 256 (pos 0))) ≡ true
unfolding part
every_part p h y = every_take p 128 _ (every_drop p (first_place y) _ (every_replicate p (pos 0) h 256))

not_negative_length : (len : ℤ) → le_z (pos length_least) len ≡ true → le_z (pos 0) len ≡ true
not_negative_length = lin1 _ (λ a b. simp diffs (omega linear))

begun : (len : ℤ) → length_fit len ≡ true → ZoneOwn len new_zone_day
unfolding length_fit total_fit
begun len fit = record {
  record' = record {
    hours = not_negative_length len (and_true (le_z (pos length_least) len) _ fit).0;
    closed = refl;
    none = refl;
    sold = refl;
    bought = refl;
  };
  earned = record { sold = omega arith; bought = omega arith };
}

-- whatever the zone's part of the record
new_places : (n : ℕ) (z : ZoneDay) (y : ℤ) → PlacesFit n z (part y (replicate 256 (pos 0)))
unfolding position_fit
new_places n z y =
    let zeros = every_part is_zero refl y in
    record { positions = every_part position_fit refl y; beyond = every_drop is_zero n _ zeros; idle = rw zeros (or-true _) }

module _ (n len : ℤ) (t : List ℤ) (k : open_cause n len t ≡ Ok tt) where
  pub own_day_opened : OwnDay (new_day n len)
  unfolding new_day hours_of_day zone_day
  own_day_opened = record {
    users' = open_fit n len t k;
    length' = open_length n len t k;
    zone = λ y zoned. let new = begun len (open_length n len t k) in of_both (ZoneOwn len) (is_zero y) new new;
  }

  pub own_opened : Own (opened (new_day n len) n len t)
  unfolding opened
  own_opened = record {
    day' = own_day_opened;
    long = ap length (open_table_lem n len t k) ∙ length-replicate 256 (pos 0);
    places = λ y zoned. rw (open_table_lem n len t k) (new_places _ _ y);
  }

-- ---- on such a day no total can pass the bound
bounded_by : (n : ℕ) (x y : ℤ) → nat_abs x + nat_abs y ≤ n → le_z (x +ℤ y) (pos n) ≡ true
bounded_by n = lin2 _ (λ a b c d. simp diffs (omega linear))

few_turns : (len h : ℤ) → nat_abs len ≤ length_most → le_z (pos 0) h ≡ true → le_z h len ≡ true → nat_abs h ≤ length_most
few_turns = lin2 _ (λ a b c d. simp diffs (omega linear))

one_less : (len h : ℤ) → nat_abs len ≤ length_most → le_z (pos 0) h ≡ true → le_z (h +ℤ pos 1) len ≡ true → nat_abs h + 1 ≤ length_most
one_less = lin2 _ (λ a b c d. simp diffs (omega linear))

-- of a zone in which so many calls and this one have sold and bought
room : (z : ZoneDay) (qs : List ℤ) → Earned z → turns z ≤ length_most → length qs ≤ users_most → AtMost position_most qs
    → (le_z (z.sold +ℤ sold qs) (pos total_most) && le_z (z.bought +ℤ bought qs) (pos total_most)) ≡ true
room z qs e t few small =
    both_true
    (bounded_by total_most z.sold (sold qs) (omega (arith, e.sold, t, sold_small qs few small)))
    (bounded_by total_most z.bought (bought qs) (omega (arith, e.bought, t, bought_small qs few small)))

-- whatever the table, where the causes before 25 have found nothing in it
module _ {d : Day} (o : OwnDay d) (t : List ℤ) where
  few_users : users d ≤ users_most
  few_users = (users_of_lem d (own_day o)).1

  pub hour_bounded : (g : Hour) → InputsFit d t g → totals_bounded g.terms.zone (hour_sums d t g) d ≡ true
  unfolding totals_bounded hour_sums hour_next zone_open hours_done is_closed total_sold total_bought
  hour_bounded g f =
      let here = o.zone g.terms.zone (zone_of_lem g.terms.zone f.zone) in
      let z = zone_day g.terms.zone d in
      let next = and_true (equal g.terms.hour (z.hours +ℤ pos 1)) _ f.next in
      let first = (and_true (le_z (pos 0) z.hours) _ here.record'.hours).0 in
      let last = one_less (hours_of_day d) z.hours (length_small _ o.length') first (rw (equal_true g.terms.hour (z.hours +ℤ pos 1) next.0) at next.1) in
      let open' : z.closed ≡ false = not-true z.closed f.open' in
      room z _ here.earned (rw open' (omega (arith, last))) (quantities_few d t g few_users) (quantities_small d t g f)

  pub closing_bounded : (g : Closing) → zone_fit g.terms.zone ≡ true → zone_open g.terms.zone d ≡ true → table_fit d t ≡ true
      → totals_bounded g.terms.zone (closing_sums d t g) d ≡ true
  unfolding totals_bounded closing_sums standing zone_open is_closed total_sold total_bought
  closing_bounded g fit opens table =
      let here = o.zone g.terms.zone (zone_of_lem g.terms.zone fit) in
      let z = zone_day g.terms.zone d in
      let hours = and_true (le_z (pos 0) z.hours) (le_z z.hours (hours_of_day d)) here.record'.hours in
      let last = few_turns (hours_of_day d) z.hours (length_small _ o.length') hours.0 hours.1 in
      let open' : z.closed ≡ false = not-true z.closed opens in
      room z _ here.earned (rw open' (omega (arith, last))) (simp length-take (omega (arith, few_users)))
      (positions_small _ (every_take position_fit (users d) _ (part-fits g.terms.zone d t table)))

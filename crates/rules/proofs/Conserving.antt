-- Conservation along a list of calls, and a closed zone. Assumes nothing.
use mathlib.Core.Path.{◌≡◌, refl, sym, ap, ap₂, ◌∙◌, subst}
use mathlib.Core.Bool.{Bool, true, false, cond, ◌&&◌, ◌||◌, or-true, or-false, or_assoc}
use mathlib.Core.Logic.{◌⊎◌, inl, inr}
use mathlib.Core.List.{List, [], ◌∷◌}
use Prim.Native.Nat.{ℕ, ◌≤◌, ◌<◌}
use native.Mathlib.Omega.{arith}
use lib.Dec.{eqb}
use lib.IntN.{ℤ, pos, ◌+ℤ◌, ◌-ℤ◌, +ℤ_comm}
use lib.ListN.{length, get_or, take, replicate, length-replicate, get_or-replicate}
use lib.Seq.{get_or-take, take_at}
use Rattle.std.specs.Prelude.{Result, Ok, Err}
use Rattle.std.specs.Result.{is_ok}
use Rattle.integers.specs.Ranges.{equal, is_zero, natural}
use Rattle.integers.proofs.Linear.{lin3, lin4, diffs, linear, not_both}
use Rattle.integers.proofs.Tests.{and_true, equal_true, equal_false}
use Rattle.integers.proofs.Counts.{length-tabulate, get_or-tabulate}
use Rattle.rules.specs.declared.Cause.{Cause}
use Rattle.rules.specs.declared.Day.{Day}
use Rattle.rules.specs.declared.ZoneDay.{ZoneDay}
use Rattle.rules.specs.Limits.{users_fit, length_fit}
use Rattle.rules.specs.Refusals.{◌then◌, by_cause}
use Rattle.rules.specs.Days.{users, hours_of_day, zone_day, hours_done, is_closed, total_sold, total_bought, new_day, day_after_hour, day_after_closing, first_place, part, place, onto}
use Rattle.rules.specs.Hours.{Hour, Closing, amounts, before, standing}
use Rattle.rules.specs.Market.{after, outcome, sold, bought, hour_imbalance, hour_sums, closing_sums}
use Rattle.rules.specs.Causes.{open_cause, hour_cause, closing_cause}
use Rattle.rules.specs.Answers.{with_day, open_answer, open_table, hour_answer, hour_table, hour_quantity, hour_day, closing_answer, closing_table, closing_quantity, closing_day}
use Rattle.rules.specs.History.{Call, hour, closing, State, step, run, hour_accepted, closing_accepted, adds_first, adds_second, first_sum, second_sum, closes_now, closes}
use Rattle.rules.proofs.Refusing.{unless_none, then_none, cause_of, by_none, by_some, number_is_ok}
use Rattle.rules.proofs.Zones.{Zone, H, L, length_part, part_changed, part_other, length_with, length-onto, get_or-onto, of_both, Keeps, zone_keeps, closed_hour, closed_closing}
use Rattle.rules.proofs.Accepted.{users_range, hour_sound, closing_sound, hour_open, closing_open, hour_number_lem, closing_number_lem}
use Rattle.rules.proofs.Settling.{length-after, after_at}

pub length_before : (d : Day) (t : List ℤ) (g : Hour) → length (before d t g) ≡ users d
unfolding before
length_before d t g = length-tabulate _ (users d)

-- ---- an accepted hour: its own part, the other part, and the user's place
module _ (d : Day) (t : List ℤ) (g : Hour) (k : hour_cause d t g ≡ Ok tt) where
  part_long : length (onto (after (hour_imbalance d t g) (before d t g)) (part g.terms.zone t)) ≡ 128
  part_long =
      let s = hour_sound d t g k in
      let p = length_part t s.long s.zoned in
      length-onto _ _ (omega (arith, length-after (hour_imbalance d t g) (before d t g), length_before d t g, s.few)) ∙ p

  pub hour_part : part g.terms.zone (hour_table d t g) ≡ onto (after (hour_imbalance d t g) (before d t g)) (part g.terms.zone t)
  unfolding hour_table
  hour_part = ap (part g.terms.zone) (by_none _ _ _ k) ∙ part_changed t (hour_sound d t g k).long _ (hour_sound d t g k).zoned part_long

  pub hour_other : (y : ℤ) → Zone y → (g.terms.zone ≡ y → ⊥) → part y (hour_table d t g) ≡ part y t
  unfolding hour_table
  hour_other y zoned n = ap (part y) (by_none _ _ _ k) ∙ part_other t (hour_sound d t g k).long _ (hour_sound d t g k).zoned zoned n part_long

  pub hour_long_still : length (hour_table d t g) ≡ 256
  unfolding hour_table
  hour_long_still = ap length (by_none _ _ _ k) ∙ length_with t (hour_sound d t g k).long _ (hour_sound d t g k).zoned part_long

  pub positions_left : take (users d) (part g.terms.zone (hour_table d t g)) ≡ after (hour_imbalance d t g) (before d t g)
  unfolding onto
  positions_left = ap (take (users d)) hour_part ∙ take_at _ _ (users d) (length-after (hour_imbalance d t g) (before d t g) ∙ length_before d t g)

  -- rules 1 and 5 of one user
  hour_here : (u : ℕ) → u < users d
      → place g.terms.zone u (hour_table d t g) ≡ place g.terms.zone u t +ℤ amounts g u -ℤ get_or (hour_quantity d t g) u (pos 0)
  unfolding hour_quantity place before
  hour_here u h =
      ap (λ (p : List ℤ). get_or p u (pos 0)) hour_part
      ∙ get_or-onto _ _ u (omega (arith, length-after (hour_imbalance d t g) (before d t g), length_before d t g))
      ∙ after_at (hour_imbalance d t g) (before d t g) u
      ∙ ap₂ ◌-ℤ◌ (get_or-tabulate _ (users d) u (pos 0) h) (ap (λ (l : List ℤ). get_or l u (pos 0)) (sym (by_none _ _ _ k)))

-- ---- an accepted closing
module _ (d : Day) (t : List ℤ) (g : Closing) (k : closing_cause d t g ≡ Ok tt) where
  pub closing_part : part g.terms.zone (closing_table d t g) ≡ replicate 128 (pos 0)
  unfolding closing_table
  closing_part =
      let s = closing_sound d t g k in
      ap (part g.terms.zone) (by_none _ _ _ k) ∙ part_changed t s.long (λ p. replicate 128 (pos 0)) s.zoned (length-replicate 128 (pos 0))

  pub closing_other : (y : ℤ) → Zone y → (g.terms.zone ≡ y → ⊥) → part y (closing_table d t g) ≡ part y t
  unfolding closing_table
  closing_other y zoned n =
      let s = closing_sound d t g k in
      ap (part y) (by_none _ _ _ k) ∙ part_other t s.long (λ p. replicate 128 (pos 0)) s.zoned zoned n (length-replicate 128 (pos 0))

  pub closing_long_still : length (closing_table d t g) ≡ 256
  unfolding closing_table
  closing_long_still =
      let s = closing_sound d t g k in
      ap length (by_none _ _ _ k) ∙ length_with t s.long (λ p. replicate 128 (pos 0)) s.zoned (length-replicate 128 (pos 0))

  closing_zero : (p : ℕ) → p < 128 → place g.terms.zone p (closing_table d t g) ≡ pos 0
  unfolding place
  closing_zero p h = ap (λ (l : List ℤ). get_or l p (pos 0)) closing_part ∙ get_or-replicate 128 p (pos 0) (pos 0) h

  closing_quantity_lem : (u : ℕ) → u < users d → get_or (closing_quantity d t g) u (pos 0) ≡ place g.terms.zone u t
  unfolding closing_quantity standing place
  closing_quantity_lem u h = ap (λ (l : List ℤ). get_or l u (pos 0)) (by_none _ _ _ k) ∙ get_or-take (users d) (part g.terms.zone t) u (pos 0) h

-- ---- a call is accepted or refused, and a refused one leaves record and table
pub hour_accepted_lem : (s : State) (g : Hour) {c : Result Unit Cause} → hour_cause s.day s.table g ≡ c → hour_accepted s g ≡ is_ok c
unfolding hour_accepted
hour_accepted_lem s g e = ap (λ (n : ℕ). eqb n 0) (hour_number_lem s.day s.table g) ∙ number_is_ok (hour_cause s.day s.table g) ∙ ap is_ok e

pub closing_accepted_lem : (s : State) (g : Closing) {c : Result Unit Cause} → closing_cause s.day s.table g ≡ c → closing_accepted s g ≡ is_ok c
unfolding closing_accepted
closing_accepted_lem s g e = ap (λ (n : ℕ). eqb n 0) (closing_number_lem s.day s.table g) ∙ number_is_ok (closing_cause s.day s.table g) ∙ ap is_ok e

pub hour_refused : (d : Day) (t : List ℤ) (g : Hour) {k : Cause} → hour_cause d t g ≡ Err k → hour_table d t g ≡ t
unfolding hour_table
hour_refused d t g k = by_some _ _ _ k

pub closing_refused : (d : Day) (t : List ℤ) (g : Closing) {k : Cause} → closing_cause d t g ≡ Err k → closing_table d t g ≡ t
unfolding closing_table
closing_refused d t g k = by_some _ _ _ k

pub hour_day_lem : (d : Day) (t : List ℤ) (g : Hour) → hour_day (hour_answer d t g) ≡ by_cause (hour_cause d t g) (day_after_hour g.terms.zone (hour_sums d t g) d) d
unfolding hour_answer hour_day by_cause
hour_day_lem d t g = go (hour_cause d t g)
  where
    go : (c : Result Unit Cause) → hour_day (with_day d c then Ok (record { day = day_after_hour g.terms.zone (hour_sums d t g) d; outcome = outcome (hour_imbalance d t g) (before d t g) })) ≡ by_cause c (day_after_hour g.terms.zone (hour_sums d t g) d) d
    go (Ok u) = refl
    go (Err k) = refl

pub closing_day_lem : (d : Day) (t : List ℤ) (g : Closing)
    → closing_day (closing_answer d t g) ≡ by_cause (closing_cause d t g) (day_after_closing g.terms.zone (closing_sums d t g) d) d
unfolding closing_answer closing_day by_cause
closing_day_lem d t g = go (closing_cause d t g)
  where
    go : (c : Result Unit Cause) → closing_day (with_day d c then Ok (record { day = day_after_closing g.terms.zone (closing_sums d t g) d; sold = sold (standing d t g); bought = bought (standing d t g) })) ≡ by_cause c (day_after_closing g.terms.zone (closing_sums d t g) d) d
    go (Ok u) = refl
    go (Err k) = refl

-- the user count and the length stay
by_keeps : (c : Result Unit Cause) (e d : Day) → Keeps e d → Keeps (by_cause c e d) d
unfolding by_cause
by_keeps (Ok u) e d h = h
by_keeps (Err k) e d h = record { users = refl; length = refl }

pub step_keeps : (s : State) (c : Call) → Keeps (step s c).day s.day
unfolding step day_after_hour day_after_closing
step_keeps s (hour g) =
    subst (λ (d : Day). Keeps d s.day) (sym (hour_day_lem s.day s.table g)) (by_keeps _ _ _ (zone_keeps g.terms.zone _ s.day))
step_keeps s (closing g) =
    subst (λ (d : Day). Keeps d s.day) (sym (closing_day_lem s.day s.table g)) (by_keeps _ _ _ (zone_keeps g.terms.zone _ s.day))

pub users-step : (s : State) (c : Call) → users (step s c).day ≡ users s.day
unfolding users
users-step s c = ap natural (step_keeps s c).users

pub length_run : (s : State) (cs : List Call) → hours_of_day (run s cs).day ≡ hours_of_day s.day
unfolding run hours_of_day
length_run s [] = refl
length_run s (c ∷ cs) = length_run (step s c) cs ∙ (step_keeps s c).length

-- ---- one call: what it adds to the first sum, it adds to the second and to the place
hour_balance : (p a q : ℤ) → a +ℤ p ≡ q +ℤ (p +ℤ a -ℤ q)
hour_balance = lin3 _ (λ a b c d e f. simp diffs (omega linear))

chain : (a b f g p q r : ℤ) → a +ℤ p ≡ b +ℤ q → f +ℤ q ≡ g +ℤ r → (a +ℤ f) +ℤ p ≡ (b +ℤ g) +ℤ r
chain = lin3 _ (λ a b c d e f. lin4 _ (λ g h i j k l m n. simp diffs (omega linear)))

module _ (zone : ℤ) (user : ℕ) (zoned : Zone zone) where
  module _ (d : Day) (t : List ℤ) (h : user < users d) where
    hour_yes : (g : Hour) → hour_cause d t g ≡ Ok tt → (b : Bool) → equal g.terms.zone zone ≡ b
        → cond b (amounts g user) (pos 0) +ℤ place zone user t
        ≡ cond b (get_or (hour_quantity d t g) user (pos 0)) (pos 0) +ℤ place zone user (hour_table d t g)
    unfolding place
    hour_yes g k true e =
        rw (← equal_true g.terms.zone zone e, hour_here d t g k user h)
        (hour_balance (place g.terms.zone user t) (amounts g user) (get_or (hour_quantity d t g) user (pos 0)))
    hour_yes g k false e =
        ap (λ (p : List ℤ). pos 0 +ℤ get_or p user (pos 0)) (sym (hour_other d t g k zone zoned (equal_false g.terms.zone zone e)))

    closing_yes : (g : Closing) → closing_cause d t g ≡ Ok tt → (b : Bool) → equal g.terms.zone zone ≡ b
        → pos 0 +ℤ place zone user t ≡ cond b (get_or (closing_quantity d t g) user (pos 0)) (pos 0) +ℤ place zone user (closing_table d t g)
    unfolding place
    closing_yes g k true e =
        rw (
          ← equal_true g.terms.zone zone e,
          closing_quantity_lem d t g k user h,
          closing_zero d t g k user (omega (arith, (closing_sound d t g k).few)),
        )
        (+ℤ_comm (pos 0) (place g.terms.zone user t))
    closing_yes g k false e =
        ap (λ (p : List ℤ). pos 0 +ℤ get_or p user (pos 0)) (sym (closing_other d t g k zone zoned (equal_false g.terms.zone zone e)))

  step_balance : (s : State) (c : Call) → user < users s.day
      → adds_first zone user s c +ℤ place zone user s.table ≡ adds_second zone user s c +ℤ place zone user (step s c).table
  unfolding adds_first adds_second step
  step_balance s (hour g) h = go (cause_of (hour_cause s.day s.table g))
    where
      go : (hour_cause s.day s.table g ≡ Ok tt) ⊎ ((k : Cause) × (hour_cause s.day s.table g ≡ Err k))
          → adds_first zone user s (hour g) +ℤ place zone user s.table
          ≡ adds_second zone user s (hour g) +ℤ place zone user (hour_table s.day s.table g)
      go (inl k) = rw (hour_accepted_lem s g k) (hour_yes s.day s.table h g k (equal g.terms.zone zone) refl)
      go (inr k) = rw (hour_accepted_lem s g k.1, hour_refused s.day s.table g k.1)
  step_balance s (closing g) h = go (cause_of (closing_cause s.day s.table g))
    where
      go : (closing_cause s.day s.table g ≡ Ok tt) ⊎ ((k : Cause) × (closing_cause s.day s.table g ≡ Err k))
          → adds_first zone user s (closing g) +ℤ place zone user s.table
          ≡ adds_second zone user s (closing g) +ℤ place zone user (closing_table s.day s.table g)
      go (inl k) = rw (closing_accepted_lem s g k) (closing_yes s.day s.table h g k (equal g.terms.zone zone) refl)
      go (inr k) = rw (closing_accepted_lem s g k.1, closing_refused s.day s.table g k.1)

  -- ---- a list of calls
  pub balance : (s : State) (cs : List Call) → user < users s.day
      → first_sum zone user s cs +ℤ place zone user s.table ≡ second_sum zone user s cs +ℤ place zone user (run s cs).table
  unfolding first_sum second_sum run
  balance s [] h = refl
  balance s (c ∷ cs) h =
      chain (adds_first zone user s c) (adds_second zone user s c) (first_sum zone user (step s c) cs) (second_sum zone user (step s c) cs)
      (place zone user s.table) (place zone user (step s c).table) (place zone user (run (step s c) cs).table)
      (step_balance s c h) (balance (step s c) cs (omega (arith, users-step s c)))

-- ---- an opened day begins at zero
module _ (n len : ℤ) (t : List ℤ) where
  pub opened_by : (d : Day) → open_answer n len t ≡ Ok d → (open_cause n len t ≡ Ok tt) × (d ≡ new_day n len)
  unfolding open_answer
  opened_by d e = let (k, q) = then_none e in (k, cc)

  module _ (k : open_cause n len t ≡ Ok tt) where
    pub open_fit : users_fit n ≡ true
    unfolding open_cause
    open_fit = unless_none _ _ (then_none k).0

    pub open_users : natural n ≤ 128
    open_users = (users_range n open_fit).1

    pub open_length : length_fit len ≡ true
    unfolding open_cause
    open_length = unless_none _ _ (then_none (then_none k).1).0

    pub open_table_lem : open_table n len t ≡ replicate 256 (pos 0)
    unfolding open_table
    open_table_lem = by_none _ _ _ k

zero_place : {zone : ℤ} → Zone zone → (p : ℕ) → p < 128 → place zone p (replicate 256 (pos 0)) ≡ pos 0
unfolding place part first_place
zero_place H p h = get_or-replicate 128 p (pos 0) (pos 0) h
zero_place L p h = get_or-replicate 128 p (pos 0) (pos 0) h

pub open_zero : (n len : ℤ) (t : List ℤ) → open_cause n len t ≡ Ok tt → {zone : ℤ} → Zone zone → (p : ℕ) → p < 128 → place zone p (open_table n len t) ≡ pos 0
open_zero n len t k {zone} zoned p h = ap (place zone p) (open_table_lem n len t k) ∙ zero_place zoned p h

-- whichever zone: no hours done, not closed, and nothing sold or bought
module _ (zone n len : ℤ) where
  by_zone : {A : Type 0} (f : ZoneDay → A) (a : A) → f (new_day n len).h ≡ a → f (new_day n len).l ≡ a → f (zone_day zone (new_day n len)) ≡ a
  unfolding zone_day
  by_zone f a h l = of_both (λ (z : ZoneDay). f z ≡ a) (is_zero zone) h l

  pub new_hours : hours_done zone (new_day n len) ≡ pos 0
  unfolding new_day hours_done
  new_hours = by_zone (λ z. z.hours) (pos 0) refl refl

  pub new_open : is_closed zone (new_day n len) ≡ false
  unfolding new_day is_closed
  new_open = by_zone (λ z. z.closed) false refl refl

  pub new_sold : total_sold zone (new_day n len) ≡ pos 0
  unfolding new_day total_sold
  new_sold = by_zone (λ z. z.sold) (pos 0) refl refl

  pub new_bought : total_bought zone (new_day n len) ≡ pos 0
  unfolding new_day total_bought
  new_bought = by_zone (λ z. z.bought) (pos 0) refl refl

-- ---- a closed zone
clash : (d : Day) (y z : ℤ) → is_closed y d ≡ false → is_closed z d ≡ true → y ≡ z → ⊥
clash d y z f h q = not_both (sym h ∙ ap (λ (x : ℤ). is_closed x d) (sym q) ∙ f)

-- the mark of a zone after a call
marked_step : (zone : ℤ) → Zone zone → (s : State) (c : Call) → is_closed zone (step s c).day ≡ (is_closed zone s.day || closes_now zone s c)
unfolding step closes_now
marked_step zone zoned s (hour g) = go (cause_of (hour_cause s.day s.table g))
  where
    go : (hour_cause s.day s.table g ≡ Ok tt) ⊎ ((k : Cause) × (hour_cause s.day s.table g ≡ Err k))
        → is_closed zone (hour_day (hour_answer s.day s.table g)) ≡ (is_closed zone s.day || false)
    go (inl k) =
        ap (is_closed zone) (hour_day_lem s.day s.table g ∙ by_none _ _ _ k)
        ∙ closed_hour zone g.terms.zone _ s.day zoned (hour_sound s.day s.table g k).zoned ∙ sym (or-false _)
    go (inr k) = ap (is_closed zone) (hour_day_lem s.day s.table g ∙ by_some _ _ _ k.1) ∙ sym (or-false _)
marked_step zone zoned s (closing g) = go (cause_of (closing_cause s.day s.table g))
  where
    now : Bool → Bool
    now b = is_closed zone s.day || b && equal g.terms.zone zone

    go : (closing_cause s.day s.table g ≡ Ok tt) ⊎ ((k : Cause) × (closing_cause s.day s.table g ≡ Err k))
        → is_closed zone (closing_day (closing_answer s.day s.table g)) ≡ now (closing_accepted s g)
    go (inl k) =
        ap (is_closed zone) (closing_day_lem s.day s.table g ∙ by_none _ _ _ k)
        ∙ closed_closing zone g.terms.zone _ s.day zoned (closing_sound s.day s.table g k).zoned
        ∙ ap now (sym (closing_accepted_lem s g k))
    go (inr k) =
        ap (is_closed zone) (closing_day_lem s.day s.table g ∙ by_some _ _ _ k.1) ∙ sym (or-false _)
        ∙ ap now (sym (closing_accepted_lem s g k.1))

pub marked-run : (zone : ℤ) → Zone zone → (s : State) (cs : List Call) → is_closed zone (run s cs).day ≡ (is_closed zone s.day || closes zone s cs)
unfolding run closes
marked-run zone zoned s [] = sym (or-false _)
marked-run zone zoned s (c ∷ cs) =
    marked-run zone zoned (step s c) cs ∙ ap (λ (b : Bool). b || closes zone (step s c) cs) (marked_step zone zoned s c)
    ∙ or_assoc (is_closed zone s.day) (closes_now zone s c) (closes zone (step s c) cs)

-- a closed zone's part is as it was
closed_step : (zone : ℤ) → Zone zone → (s : State) (c : Call) → is_closed zone s.day ≡ true → part zone (step s c).table ≡ part zone s.table
unfolding step
closed_step zone zoned s (hour g) h = go (cause_of (hour_cause s.day s.table g))
  where
    go : (hour_cause s.day s.table g ≡ Ok tt) ⊎ ((k : Cause) × (hour_cause s.day s.table g ≡ Err k))
        → part zone (hour_table s.day s.table g) ≡ part zone s.table
    go (inl k) = hour_other s.day s.table g k zone zoned (clash s.day g.terms.zone zone (hour_open s.day s.table g k) h)
    go (inr k) = ap (part zone) (hour_refused s.day s.table g k.1)
closed_step zone zoned s (closing g) h = go (cause_of (closing_cause s.day s.table g))
  where
    go : (closing_cause s.day s.table g ≡ Ok tt) ⊎ ((k : Cause) × (closing_cause s.day s.table g ≡ Err k))
        → part zone (closing_table s.day s.table g) ≡ part zone s.table
    go (inl k) = closing_other s.day s.table g k zone zoned (clash s.day g.terms.zone zone (closing_open s.day s.table g k) h)
    go (inr k) = ap (part zone) (closing_refused s.day s.table g k.1)

closed_run : (zone : ℤ) → Zone zone → (s : State) (cs : List Call) → is_closed zone s.day ≡ true
    → part zone (run s cs).table ≡ part zone s.table
unfolding run
closed_run zone zoned s [] h = refl
closed_run zone zoned s (c ∷ cs) h =
    closed_run zone zoned (step s c) cs (marked_step zone zoned s c ∙ ap (λ (b : Bool). b || closes_now zone s c) h) ∙ closed_step zone zoned s c h

-- what an accepted closing leaves
closed_now_lem : (zone : ℤ) (s : State) (c : Call) → closes_now zone s c ≡ true → (p : ℕ) → p < 128 → place zone p (step s c).table ≡ pos 0
unfolding closes_now step
closed_now_lem zone s (hour g) h = not_both (sym h)
closed_now_lem zone s (closing g) h = go (cause_of (closing_cause s.day s.table g))
  where
    go : (closing_cause s.day s.table g ≡ Ok tt) ⊎ ((k : Cause) × (closing_cause s.day s.table g ≡ Err k)) → (p : ℕ) → p < 128
        → place zone p (closing_table s.day s.table g) ≡ pos 0
    go (inl k) = rw (← equal_true g.terms.zone zone (and_true (closing_accepted s g) _ h).1) (closing_zero s.day s.table g k)
    go (inr k) = not_both (sym (and_true (closing_accepted s g) _ h).0 ∙ closing_accepted_lem s g k.1)

pub closed_zero : (zone : ℤ) → Zone zone → (s : State) (cs : List Call) → closes zone s cs ≡ true → (p : ℕ) → p < 128
    → place zone p (run s cs).table ≡ pos 0
unfolding closes run place
closed_zero zone zoned s [] h p l = not_both (sym h)
closed_zero zone zoned s (c ∷ cs) h p l = go (closes_now zone s c) refl h (λ k. closed_zero zone zoned (step s c) cs k p l)
  where
    go : (b : Bool) → closes_now zone s c ≡ b → (b || closes zone (step s c) cs) ≡ true
        → (closes zone (step s c) cs ≡ true → place zone p (run (step s c) cs).table ≡ pos 0) → place zone p (run (step s c) cs).table ≡ pos 0
    go true e k later =
        let closed = marked_step zone zoned s c ∙ ap (λ (b : Bool). is_closed zone s.day || b) e ∙ or-true (is_closed zone s.day) in
        ap (λ (l : List ℤ). get_or l p (pos 0)) (closed_run zone zoned (step s c) cs closed) ∙ closed_now_lem zone s c e p l
    go false e k later = later k

-- The text of an hour that is settled, and of one that is refused. Assumes nothing.
use mathlib.Core.Path.{◌≡◌, refl, sym, ap, ◌∙◌}
use mathlib.Core.Bool.{Bool, true, false}
use mathlib.Core.List.{List}
use Prim.Native.Nat.{ℕ, ◌+◌, ◌-◌, ◌≤◌}
use native.Mathlib.Omega.{arith}
use lib.Dec.{lit≤}
use lib.IntN.{ℤ, pos, ◌+ℤ◌, ◌-ℤ◌}
use lib.ListN.{length, get_or, take, drop, length-take, length-drop, length-map}
use lib.Seq.{ext_get_or, take-take}
use Rattle.std.specs.Prelude.{Ok, Err}
use Rattle.integers.specs.Ranges.{is_zero}
use Rattle.integers.proofs.Linear.{lin2, diffs, linear}
use Rattle.rules.specs.Limits.{users_most}
use Rattle.rules.specs.declared.Day.{Day}
use Rattle.rules.specs.declared.Outputs.{Outputs}
use Rattle.rules.specs.declared.Refusal.{Refusal}
use Rattle.rules.specs.declared.HourDone.{HourDone}
use Rattle.rules.specs.Days.{users, first_place, part}
use Rattle.rules.specs.Hours.{Hour, before}
use Rattle.rules.specs.Market.{quantities, after, moneys, hour_imbalance}
use Rattle.rules.specs.Causes.{hour_cause, before_fit}
use Rattle.rules.specs.Answers.{hour_answer, hour_table, hour_quantity, hour_money}
use Rattle.rules.proofs.Refusing.{by_none, with_day_none}
use Rattle.rules.proofs.Accepted.{hour_fit_lem, hour_sound, hour_lengths}
use Rattle.rules.proofs.Small.{positions_small}
use Rattle.rules.proofs.Conserving.{length_before, positions_left}
use Rattle.rules.proofs.Settling.{length-quantities, after_at}
use Rattle.report.specs.Text.{hour_text}
use Rattle.text.specs.declared.writing.Writer.{Writer}
use Rattle.text.specs.Puts.{Wrote}
use Rattle.hour_text.specs.Lent.{sums, Adds, afters, settled_text, Settled, TextRoom}
use Rattle.hour_text.specs.Opened.{settled}
use Rattle.hour_text.proofs.Adding.{length-sums, sums_at}
use Rattle.hour_text.proofs.Opening.{with_day_some}

-- ---- the users' places of the table
pub first_few : (zone : ℤ) → first_place zone ≤ 128
unfolding first_place
first_few zone = go (is_zero zone) refl
  where
    go : (b : Bool) → is_zero zone ≡ b → first_place zone ≤ 128
    go true e = rw e (lit≤ tt)
    go false e = rw e (lit≤ tt)

pub after_is : (zone : ℤ) (table : List ℤ) (start n : ℕ) → start ≡ first_place zone → n ≤ users_most
    → take (start + n - start) (drop start table) ≡ afters zone n table
unfolding afters part
after_is zone table start n e h =
    let k : start + n - start ≡ n = omega arith in
    rw (k, e) (sym (take-take n 128 (drop (first_place zone) table) h))

pub adds_of : {w : Writer} {zone : ℤ} {table : List ℤ} {o : Outputs} {b a : List ℤ} → Settled w zone table o b
    → a ≡ afters zone (length o.quantity.now) table → Adds o.quantity.now a b
unfolding afters part
adds_of {zone = zone} {table = table} {o = o} s e =
    let n = length o.quantity.now in
    let l : length (take n (take 128 (drop (first_place zone) table))) ≡ n =
    simp (length-take, length-drop) (omega (arith, s.users, s.places, first_few zone)) in
    record { seconds = ap length e ∙ l; outs = s.befores; small = rw e s.small }

pub settled_wrote : (zone : ℤ) (table q m a b : List ℤ) {w w' : Writer}
    → a ≡ afters zone (length q) table → b ≡ sums q a → Wrote w w' (hour_text b q m a) → Wrote w w' (settled_text zone table q m)
unfolding settled_text
settled_wrote zone table q m a b e f p = rw (← e, ← f) p

-- ---- an hour by its answer
regained : (q b : ℤ) → q +ℤ (b -ℤ q) ≡ b
regained = lin2 _ (λ a b c d. simp diffs (omega linear))

module _ (d : Day) (t : List ℤ) (g : Hour) where
  pub hour_refused : {r : Refusal} → Err r ≡ hour_answer d t g → settled d t g ≡ Err r.cause
  unfolding hour_answer settled
  hour_refused e = rw (with_day_some d _ _ (sym e)) refl

  pub hour_done : {r : HourDone} → Ok r ≡ hour_answer d t g → hour_cause d t g ≡ Ok tt
  unfolding hour_answer
  hour_done e = (with_day_none d (sym e)).0

  module _ (k : hour_cause d t g ≡ Ok tt) where
    -- the quantities and the positions after add up to the positions before
    sums_are : sums (quantities (hour_imbalance d t g) (before d t g)) (after (hour_imbalance d t g) (before d t g)) ≡ before d t g
    sums_are =
        let i = hour_imbalance d t g in
        let b = before d t g in
        let l = length-sums (quantities i b) (after i b) ∙ length-quantities i b in
        ext_get_or (pos 0) (sums (quantities i b) (after i b)) b l
        (λ u h. sums_at (quantities i b) (after i b) u (omega (arith, l, length-quantities i b))
        ∙ ap (λ (z : ℤ). get_or (quantities i b) u (pos 0) +ℤ z) (after_at i b u)
        ∙ regained (get_or (quantities i b) u (pos 0)) (get_or b u (pos 0)))

    module _ {t' : List ℤ} (o' : Outputs) (et : t' ≡ hour_table d t g) (eq : o'.quantity.now ≡ hour_quantity d t g) (em : o'.money.now ≡ hour_money d t g) where
      quantity_is : o'.quantity.now ≡ quantities (hour_imbalance d t g) (before d t g)
      unfolding hour_quantity
      quantity_is = eq ∙ by_none _ _ _ k

      long_quantity : length o'.quantity.now ≡ users d
      long_quantity = ap length quantity_is ∙ length-quantities (hour_imbalance d t g) (before d t g) ∙ length_before d t g

      left : afters g.terms.zone (length o'.quantity.now) t' ≡ after (hour_imbalance d t g) (before d t g)
      unfolding afters
      left = rw (long_quantity, et) (positions_left d t g k)

      sums-left : sums o'.quantity.now (afters g.terms.zone (length o'.quantity.now) t') ≡ before d t g
      sums-left = rw (left, quantity_is) sums_are

      pub done_text : settled d t g ≡ Ok (settled_text g.terms.zone t' o'.quantity.now o'.money.now)
      unfolding settled settled_text
      done_text =
          rw (k, sums-left, left, ← eq, ← em, positions_left d t g k) refl

      pub done_asks : {w : Writer} {b : List ℤ} → TextRoom w b g.entry → length t' ≡ length t → Settled w g.terms.zone t' o' b
      unfolding before_fit hour_money moneys
      done_asks r lt =
          let s = hour_sound d t g k in
          let f = hour_fit_lem d t g k in
          let l = hour_lengths d t g f.lengths in
          let lm : length o'.money.now ≡ length o'.quantity.now =
          ap length (em ∙ by_none _ _ _ k) ∙ length-map _ _ ∙ sym (ap length quantity_is) in
          record {
            room = r.room;
            places = lt ∙ s.long;
            users = omega (arith, long_quantity, s.few);
            moneys = lm;
            befores = omega (arith, long_quantity, r.befores, l.amounts.entries);
            small = rw sums-left (positions_small _ f.inputs.positions);
          }

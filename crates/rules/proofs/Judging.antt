-- The judge: what is accepted is right and what is right is accepted; our own quantities are; and what is accepted keeps what an hour of ours keeps. Assumes nothing.
use mathlib.Core.Path.{◌≡◌, refl, sym, ap, ◌∙◌}
use mathlib.Core.Bool.{Bool, true, false, cond, not, ◌||◌}
use mathlib.Core.List.{List, [], ◌∷◌, zip_with}
use Prim.Native.Nat.{ℕ, zero, suc, ◌≤◌}
use native.Mathlib.Omega.{arith}
use borrow.Author.Tests.{eq-eqb, ltb-true, lt-ltb}
use lib.IntN.{ℤ, pos, nat_abs}
use lib.ListN.{length, get_or}
use Rattle.std.specs.Prelude.{Ok}
use Rattle.integers.specs.Ranges.{equal, is_zero}
use Rattle.integers.specs.Lists.{sum, sum_ℤ, every, AtMost}
use Rattle.integers.proofs.Linear.{not_both}
use Rattle.integers.proofs.Tests.{and_true, both_true, equal_true, equal-self, is_zero_true}
use Rattle.rules.specs.declared.Day.{Day}
use Rattle.rules.specs.Days.{users}
use Rattle.rules.specs.Hours.{Hour, inputs_of, amounts, before}
use Rattle.rules.specs.Refusals.{number}
use Rattle.rules.specs.Market.{Imbalance, imbalance, total, caused, sizes, signed, quantities, hour_imbalance}
use Rattle.rules.specs.Causes.{day_fit, table_long, list_long, amounts_long, hour_long, judge_long, amounts_fit, pooling_adds, before_fit, inputs_cause, hour_cause, judge_inputs_cause}
use Rattle.rules.specs.Answers.{hour_quantity, number_by}
use Rattle.rules.specs.Judging.{each_user, sign_right, near, share_right, sum_right, quantities_cause, judge_cause, judge_answer, judge_number}
use Rattle.rules.specs.Guarantees.{JudgeFit, Near, Right}
use Rattle.rules.proofs.Refusing.{required, unless_none, then_none, by_none, number_none, number_with_day}
use Rattle.rules.proofs.Accepted.{Sound, sound_of, inputs_fit_lem, fit_inputs, hour_fit_lem, thresholds_sound, judge_lengths}
use Rattle.rules.proofs.Settling.{View, view, length-quantities, size-le, no_more_than_own, caused-none, signed-none, own_right}
use Rattle.rules.proofs.Conserving.{length_before}

-- ---- a test of each user
-- a place beyond the users holds nothing
each_at : (test : ℤ → ℤ → Bool) (ps qs : List ℤ) → length ps ≡ length qs → test (pos 0) (pos 0) ≡ true → each_user test ps qs ≡ true
    → (u : ℕ) → test (get_or ps u (pos 0)) (get_or qs u (pos 0)) ≡ true
unfolding each_user every zip_with
each_at test [] [] long none e u = none
each_at test [] (q ∷ qs) long none e u = absurd (omega arith)
each_at test (p ∷ ps) [] long none e u = absurd (omega arith)
each_at test (p ∷ ps) (q ∷ qs) long none e zero = (and_true (test p q) _ e).0
each_at test (p ∷ ps) (q ∷ qs) long none e (suc u) = each_at test ps qs (omega arith) none (and_true (test p q) _ e).1 u

each_of : (test : ℤ → ℤ → Bool) (ps qs : List ℤ) → ((u : ℕ) → test (get_or ps u (pos 0)) (get_or qs u (pos 0)) ≡ true) → each_user test ps qs ≡ true
unfolding each_user every zip_with
each_of test [] qs h = refl
each_of test (p ∷ ps) [] h = refl
each_of test (p ∷ ps) (q ∷ qs) h = rw (h 0) (each_of test ps qs (λ u. h (suc u)))

-- ---- 22 of one user
module _ (i : Imbalance) (p q : ℤ) where
  sign_is_right : (caused i p ≡ false → q ≡ pos 0) → q ≡ signed i (nat_abs q) → sign_right i p q ≡ true
  unfolding sign_right
  sign_is_right none sign = go (caused i p) refl
    where
      same : equal q (signed i (nat_abs q)) ≡ true
      same = ap (equal q) (sym sign) ∙ equal-self q

      go : (b : Bool) → caused i p ≡ b → sign_right i p q ≡ true
      go true c = rw (c, same) refl
      go false c = rw (c, none c) refl

  right_sign : sign_right i p q ≡ true → (caused i p ≡ false → q ≡ pos 0) × (q ≡ signed i (nat_abs q))
  unfolding sign_right
  right_sign e = go (caused i p) refl e
    where
      go : (b : Bool) → caused i p ≡ b → cond b (equal q (signed i (nat_abs q))) (is_zero q) ≡ true → (caused i p ≡ false → q ≡ pos 0) × (q ≡ signed i (nat_abs q))
      go true c e = (λ n. not_both (sym c ∙ n), equal_true _ _ e)
      go false c e = let none = is_zero_true q e in (λ n. none, rw (none, signed-none i))

-- ---- 23 of one user
module _ (i : Imbalance) (S : ℕ) (p q : ℤ) where
  right_share : share_right i S p q ≡ true → caused i p ≡ true → Near i S p q
  unfolding share_right near
  right_share e c =
      let both = and_true _ _ (rw c at e) in
      (ltb-true _ _ both.0, ltb-true _ _ both.1)

  share_is_right : (caused i p ≡ true → Near i S p q) → share_right i S p q ≡ true
  unfolding share_right near
  share_is_right told = go (caused i p) refl
    where
      go : (b : Bool) → caused i p ≡ b → (not b || near i S p q) ≡ true
      go true c = both_true (lt-ltb _ _ (told c).0) (lt-ltb _ _ (told c).1)
      go false c = refl

-- ---- the three causes, and what is right
module _ (i : Imbalance) (ps qs : List ℤ) (long : length ps ≡ length qs) where
  told_sign_of : each_user (sign_right i) ps qs ≡ true → (u : ℕ)
      → (caused i (get_or ps u (pos 0)) ≡ false → get_or qs u (pos 0) ≡ pos 0) × (get_or qs u (pos 0) ≡ signed i (nat_abs (get_or qs u (pos 0))))
  told_sign_of signs u = right_sign i _ _ (each_at (sign_right i) ps qs long (sign_is_right i _ _ (λ c. refl) (sym (signed-none i))) signs u)

  told_share_of : (S : ℕ) → each_user (share_right i S) ps qs ≡ true → (u : ℕ)
      → caused i (get_or ps u (pos 0)) ≡ true → Near i S (get_or ps u (pos 0)) (get_or qs u (pos 0))
  told_share_of S shares u =
      right_share i S _ _ (each_at (share_right i S) ps qs long (share_is_right i S _ _ (λ c. not_both (sym c ∙ caused-none i))) shares u)

  -- past 22 and 23 no quantity is larger than its position
  pub quantities_small : (S n : ℕ) → total i ≤ S → AtMost n ps → each_user (sign_right i) ps qs ≡ true → each_user (share_right i S) ps qs ≡ true → AtMost n qs
  quantities_small S n enough small signs shares = record { at = at }
    where
      at : (u : ℕ) → nat_abs (get_or qs u (pos 0)) ≤ n
      at u = omega (arith, no_more_than_own i S _ _ enough (told_sign_of signs u).0 (told_share_of S shares u), size-le i (get_or ps u (pos 0)), small.at u)

  none_right : quantities_cause i ps qs ≡ Ok tt → Right i ps qs
  unfolding quantities_cause sum_right
  none_right none =
      let (signs, n23) = required (each_user (sign_right i) ps qs) _ _ none in
      let (shares, n24) = required (each_user (share_right i (sum (sizes i ps))) ps qs) _ _ n23 in
      record {
        adds_up = equal_true (sum_ℤ qs) (signed i (total i)) (unless_none (sum_right i qs) _ n24);
        only_causers = λ u. (told_sign_of signs u).0;
        sign = λ u. (told_sign_of signs u).1;
        near = told_share_of _ shares;
      }

module _ (i : Imbalance) (ps qs : List ℤ) where
  right_none : Right i ps qs → quantities_cause i ps qs ≡ Ok tt
  unfolding quantities_cause sum_right
  right_none r =
      rw (
        each_of (sign_right i) ps qs (λ u. sign_is_right i _ _ (r.only_causers u) (r.sign u)),
        each_of (share_right i (sum (sizes i ps))) ps qs (λ u. share_is_right i _ _ _ (r.near u)),
        r.adds_up,
        equal-self (signed i (total i)),
      ) refl

-- ---- the judge
module _ (d : Day) (t : List ℤ) (g : Hour) (qs : List ℤ) where
  pub inputs_judged : judge_inputs_cause d t g qs ≡ Ok tt → JudgeFit d t g qs
  unfolding judge_inputs_cause
  inputs_judged none =
      let (day, n3) = required (day_fit d) _ _ none in
      let (lengths, n4) = required (judge_long d t g qs) _ _ n3 in
      record { day = day; lengths = lengths; inputs = inputs_fit_lem d t g n4 }

  judged_inputs : JudgeFit d t g qs → judge_inputs_cause d t g qs ≡ Ok tt
  unfolding judge_inputs_cause
  judged_inputs f = rw (f.day, f.lengths) (fit_inputs d t g f.inputs)

  pub judge_number_lem : judge_number (judge_answer d t g qs) ≡ number_by number (judge_cause d t g qs)
  unfolding judge_number judge_answer
  judge_number_lem = number_with_day d (judge_cause d t g qs) _

  -- as many as positions
  pub judged_long : JudgeFit d t g qs → length (before d t g) ≡ length qs
  judged_long f = length_before d t g ∙ sym (judge_lengths d t g qs f.lengths).quantities

  pub accepted_right : judge_number (judge_answer d t g qs) ≡ 0 → JudgeFit d t g qs × Right (hour_imbalance d t g) (before d t g) qs
  unfolding judge_cause
  accepted_right e =
      let (inputs, none) = then_none (number_none (judge_cause d t g qs) (sym judge_number_lem ∙ e)) in
      let f = inputs_judged inputs in
      (f, none_right (hour_imbalance d t g) (before d t g) qs (judged_long f) none)

  pub right_accepted : JudgeFit d t g qs → Right (hour_imbalance d t g) (before d t g) qs → judge_number (judge_answer d t g qs) ≡ 0
  unfolding judge_cause
  right_accepted f r = rw (judge_number_lem, judged_inputs f, right_none _ _ qs r) refl

  pub judge_sound : JudgeFit d t g qs → Sound d t g.terms.zone
  unfolding judge_long
  judge_sound f = sound_of d t g.terms.zone f.day (and_true (table_long t) _ f.lengths).0 f.inputs.zone

-- ---- the imbalance of an hour, by the three cases of rule 2
pub hour_view : (d : Day) (t : List ℤ) (g : Hour) → View g.terms.upper g.terms.lower (sum_ℤ (before d t g)) (hour_imbalance d t g)
unfolding hour_imbalance imbalance
hour_view d t g = view g.terms.upper g.terms.lower (sum_ℤ (before d t g))

-- ---- our own quantities
own_long : (d : Day) (t : List ℤ) (g : Hour) (qs : List ℤ) → hour_long d t g ≡ true → length qs ≡ users d → judge_long d t g qs ≡ true
unfolding hour_long judge_long list_long
own_long d t g qs long q =
    let l = and_true (table_long t) _ long in
    both_true l.0 (both_true (and_true (amounts_long d g) _ l.1).0 (eq-eqb _ _ q))

-- of an hour no more is read
pub judged_read : (d : Day) (t : List ℤ) (g : Hour) (qs : List ℤ) → judge_answer d t (inputs_of g) qs ≡ judge_answer d t g qs
unfolding judge_answer judge_cause judge_inputs_cause judge_long amounts_long inputs_cause amounts_fit pooling_adds before_fit hour_imbalance before amounts
judged_read d t g qs = refl

pub own_judged : (d : Day) (t : List ℤ) (g : Hour) → hour_cause d t g ≡ Ok tt
    → JudgeFit d t g (hour_quantity d t g) × Right (hour_imbalance d t g) (before d t g) (hour_quantity d t g)
unfolding hour_quantity before_fit
own_judged d t g none =
    let f = hour_fit_lem d t g none in
    let b = thresholds_sound g.terms f.inputs.terms in
    let own : hour_quantity d t g ≡ quantities (hour_imbalance d t g) (before d t g) = by_none _ _ _ none in (
      record {
        day = f.day;
        lengths = own_long d t g (hour_quantity d t g) f.lengths (rw own (length-quantities _ (before d t g)) ∙ length_before d t g);
        inputs = f.inputs;
      },
      rw own (own_right g.terms.upper g.terms.lower (before d t g) b.0 b.1 f.inputs.positions (hour_view d t g)),
    )

-- What causes 22 to 24 ask of each other, by the positions before; and what causes 2 to 11 leave for them. Assumes nothing.
use mathlib.Core.Path.{◌≡◌, refl, sym, ap, ◌∙◌, subst}
use mathlib.Core.Bool.{true}
use mathlib.Core.List.{List, []}
use Prim.Native.Nat.{◌≤◌}
use native.Mathlib.Omega.{arith}
use lib.IntN.{ℤ, nat_abs}
use lib.ListN.{length}
use Rattle.std.specs.Prelude.{Ok}
use Rattle.integers.specs.Lists.{sum, sum_ℤ, AtMost}
use Rattle.rules.specs.declared.Amounts.{Amounts}
use Rattle.rules.specs.declared.Day.{Day}
use Rattle.rules.specs.declared.HourTerms.{HourTerms}
use Rattle.rules.specs.Limits.{users_most, position_most, market_most}
use Rattle.rules.specs.Days.{users, part}
use Rattle.rules.specs.Hours.{inputs_given, before}
use Rattle.rules.specs.Market.{Imbalance, imbalance, total, sizes, hour_imbalance}
use Rattle.rules.specs.Causes.{judge_inputs_cause}
use Rattle.rules.specs.Judging.{each_user, sign_right, share_right, judge_cause}
use Rattle.rules.specs.Guarantees.{JudgeFit}
use Rattle.rules.specs.Refusals.{◌then◌}
use Rattle.rules.proofs.Refusing.{then_ok}
use Rattle.rules.proofs.Small.{positions_small}
use Rattle.rules.proofs.Accepted.{thresholds_sound, JudgeLengths, judge_lengths}
use Rattle.rules.proofs.Settling.{View, view, total_enough}
use Rattle.rules.proofs.Judging.{quantities_small, inputs_judged, judge_sound}
use Rattle.positions.specs.Before.{befores, Fit}
use Rattle.positions.proofs.Before.{length-befores, before_is, inputs_fit}
use Rattle.judging.specs.Steps.{Found, Asked, AskedTable, asked_cause}
use Rattle.judging.proofs.Users.{market_small, sum_small}

few : {p : List ℤ} {a : Amounts} → Fit p a → length (befores p a) ≤ users_most
few {p} {a} f = omega (arith, length-befores p a, f.range.lent.few)

module _ {i : Imbalance} {p : List ℤ} {a : Amounts} {qs : List ℤ} (g : Found i p a qs) where
  pub sum_asked : (total i ≤ sum (sizes i (befores p a))) × (sum (sizes i (befores p a)) ≤ market_most)
  sum_asked = (g.enough, sum_small (befores p a) (few g.fit) g.fit.positions i)

  pub sum_right_asked : each_user (sign_right i) (befores p a) qs ≡ true → each_user (share_right i (sum (sizes i (befores p a)))) (befores p a) qs ≡ true
      → (total i ≤ market_most) × (length qs ≤ users_most) × AtMost position_most qs
  sum_right_asked signs shares = (
    omega (arith, sum_asked.0, sum_asked.1),
    omega (arith, g.long, g.fit.range.lent.few),
    quantities_small i (befores p a) qs (length-befores p a ∙ sym g.long) _ position_most g.enough (positions_small (befores p a) g.fit.positions) signs shares,
  )

module _ {p : List ℤ} {a : Amounts} {k : HourTerms} {m : ℤ} {qs : List ℤ} (g : Asked p a k m qs) where
  pub market_asked : nat_abs m ≤ market_most
  market_asked = rw g.market (market_small (befores p a) (few g.fit) g.fit.positions)

  -- of the imbalance that was found
  pub found_asked : (i : Imbalance) → i ≡ imbalance k.upper k.lower (befores p a) → Found i p a qs
  unfolding imbalance
  found_asked i is =
      let h = thresholds_sound k g.terms in
      record {
        fit = g.fit;
        enough =
            total_enough k.upper k.lower (befores p a) h.0 h.1 g.fit.positions
            (subst (View k.upper k.lower (sum_ℤ (befores p a))) (sym is) (view k.upper k.lower (sum_ℤ (befores p a))));
        long = g.long;
      }

-- ---- past causes 2 to 11
module _ (d : Day) (t : List ℤ) (k : HourTerms) (a : Amounts) (qs : List ℤ) {m : ℤ}
    (past : (judge_inputs_cause d t (inputs_given k a) qs then Ok (sum_ℤ (before d t (inputs_given k a)))) ≡ Ok m) where
  fit : JudgeFit d t (inputs_given k a) qs
  fit = inputs_judged d t (inputs_given k a) qs (then_ok past).0

  lengths : JudgeLengths (users d) (inputs_given k a) qs
  lengths = judge_lengths d t (inputs_given k a) qs fit.lengths

  positions : before d t (inputs_given k a) ≡ befores (part k.zone t) a
  positions = before_is d t k a [] [] [] lengths.amounts.entries

  pub table_asked : AskedTable t a k m qs
  table_asked =
      let sound = judge_sound d t (inputs_given k a) qs fit in
      record {
        long = sound.long;
        asked = record {
          fit = inputs_fit d t k a [] [] [] sound lengths.amounts fit.inputs;
          terms = fit.inputs.terms;
          market = sym (then_ok past).1 ∙ ap sum_ℤ positions;
          long = lengths.quantities ∙ sym lengths.amounts.entries;
        };
      }

  pub judged : asked_cause (part k.zone t) a k qs ≡ judge_cause d t (inputs_given k a) qs
  unfolding judge_cause hour_imbalance
  judged = rw ((then_ok past).0, positions) refl

-- Rule 2, as the outcome of an hour tells it. Assumes nothing.
use mathlib.Core.Path.{◌≡◌, refl, sym, ap}
use mathlib.Core.Bool.{true}
use mathlib.Core.List.{List}
use Prim.Native.Nat.{ℕ}
use native.Mathlib.Omega.{arith}
use lib.IntN.{ℤ, pos, ◌-ℤ◌}
use lib.Signed.{lt_z, le_z, ◌≤ℤ◌, ◌<ℤ◌, clash_ℤ}
use Rattle.integers.proofs.Linear.{lin3, diffs, linear}
use Rattle.integers.proofs.Tests.{le_of_test, lt_of_test}
use Rattle.rules.specs.declared.Marks.{Marks}
use Rattle.rules.specs.declared.Side.{Side}
use Rattle.rules.specs.declared.Side.TheVariants.{Excess, Shortfall}
use Rattle.rules.specs.declared.Outcome.TheVariants.{Within, Settled}
use Rattle.rules.specs.Market.{Imbalance, outcome}
use Rattle.rules.specs.Guarantees.{OutcomeTells}
use Rattle.rules.proofs.Settling.{View, is_within, is_excess, is_shortfall}

-- ---- outcomes that differ
not_settled : {side : Side} {marks : Marks} → Within ≡ Settled side marks → ⊥
not_settled e = let z : ◌≡◌ {A = ℕ} 0 1 = cc in absurd (omega arith)

not_other : {a b : ℤ} {marks other : Marks} → Settled (Excess a) marks ≡ Settled (Shortfall b) other → ⊥
not_other e = let z : ◌≡◌ {A = ℕ} 0 1 = cc in absurd (omega arith)

same_excess : {a b : ℤ} {marks other : Marks} → Settled (Excess a) marks ≡ Settled (Excess b) other → b ≡ a
same_excess e = cc

same_shortfall : {a b : ℤ} {marks other : Marks} → Settled (Shortfall a) marks ≡ Settled (Shortfall b) other → b ≡ a
same_shortfall e = cc

-- ---- what each outcome tells
module _ (upper lower m : ℤ) where
  tells_within : lower ≤ℤ m → m ≤ℤ upper → OutcomeTells upper lower m Within
  tells_within low high = record {
    within = (λ e. (low, high), λ h. refl);
    excess = λ total. (λ w. absurd (not_settled w.1), λ h. clash_ℤ h.0 high);
    shortfall = λ total. (λ w. absurd (not_settled w.1), λ h. clash_ℤ h.0 low);
  }

  tells_excess : upper <ℤ m → lower ≤ℤ m → (marks : Marks) → OutcomeTells upper lower m (Settled (Excess (m -ℤ upper)) marks)
  tells_excess over low marks = record {
    within = (λ e. absurd (not_settled (sym e)), λ h. clash_ℤ over h.1);
    excess = λ total. (λ w. (over, same_excess w.1), λ h. (marks, ap (λ (n : ℤ). Settled (Excess n) marks) (sym h.1)));
    shortfall = λ total. (λ w. absurd (not_other w.1), λ h. clash_ℤ h.0 low);
  }

  tells_shortfall : m <ℤ lower → m ≤ℤ upper → (marks : Marks) → OutcomeTells upper lower m (Settled (Shortfall (lower -ℤ m)) marks)
  tells_shortfall under high marks = record {
    within = (λ e. absurd (not_settled (sym e)), λ h. clash_ℤ under h.0);
    excess = λ total. (λ w. absurd (not_other (sym w.1)), λ h. clash_ℤ h.0 high);
    shortfall = λ total. (λ w. (under, same_shortfall w.1), λ h. (marks, ap (λ (n : ℤ). Settled (Shortfall n) marks) (sym h.1)));
  }

-- ---- no market is beyond both thresholds, since zero is between them
above_lower : (upper lower m : ℤ) → le_z (pos 0) upper ≡ true → le_z lower (pos 0) ≡ true → lt_z upper m ≡ true → le_z lower m ≡ true
above_lower = lin3 _ (λ a b c d e f. simp diffs (omega linear))

below_upper : (upper lower m : ℤ) → le_z (pos 0) upper ≡ true → le_z lower (pos 0) ≡ true → lt_z m lower ≡ true → le_z m upper ≡ true
below_upper = lin3 _ (λ a b c d e f. simp diffs (omega linear))

pub tells : (upper lower m : ℤ) → le_z (pos 0) upper ≡ true → le_z lower (pos 0) ≡ true → (ps : List ℤ) {i : Imbalance}
    → View upper lower m i → OutcomeTells upper lower m (outcome i ps)
unfolding outcome
tells upper lower m top bottom ps (is_within a b) = tells_within upper lower m (le_of_test b) (le_of_test a)
tells upper lower m top bottom ps (is_excess a b) =
    rw b (tells_excess upper lower m (lt_of_test a) (le_of_test (above_lower upper lower m top bottom a)) _)
tells upper lower m top bottom ps (is_shortfall a b) =
    rw b (tells_shortfall upper lower m (lt_of_test a) (le_of_test (below_upper upper lower m top bottom a)) _)

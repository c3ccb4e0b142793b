-- Thresholds and market are read as they are, and are small: their differences fit. Assumes nothing.
use mathlib.Core.Path.{◌≡◌, sym, ◌∙◌}
use mathlib.Core.Bool.{Bool}
use native.Mathlib.Omega.{arith}
use lib.IntN.{◌-ℤ◌}
use lib.Signed.{lt_z}
use mir.Syntax.{w64}
use mir.Val.{SFits, to_z, of_z}
use Rattle.integers.proofs.Machine.{read, fits, fits_sub, fitting}
use Rattle.rules.specs.Market.{imbalance_of}
use Rattle.rules.proofs.Small.{terms_small}
use Rattle.positions.proofs.imbalance_of.Goals.{Start, After-above_upper, After-below_lower}
use Rattle.positions.proofs.imbalance_of.Goals as goal

-- the thresholds as they are read, and how far the market is from them
module _ (c : Start) where
  upper : to_z w64 (of_z w64 c.args.terms.upper) ≡ c.args.terms.upper
  upper = read (fits c.args.terms.upper (omega (arith, (terms_small c.args.terms c.requires.0).upper)))

  lower : to_z w64 (of_z w64 c.args.terms.lower) ≡ c.args.terms.lower
  lower = read (fits c.args.terms.lower (omega (arith, (terms_small c.args.terms c.requires.0).lower)))

  over : SFits w64 (c.args.market -ℤ c.args.terms.upper)
  over = omega (arith, fits_sub, (terms_small c.args.terms c.requires.0).upper)

  under : SFits w64 (c.args.terms.lower -ℤ c.args.market)
  under = omega (arith, fits_sub, (terms_small c.args.terms c.requires.0).lower)

-- the two tests
above : (c : After-above_upper) {b : Bool} → c.above_upper.result ≡ b → lt_z c.args.terms.upper c.args.market ≡ b
above c is = sym (rw (read c.ranges.market) at c.above_upper.ensures) ∙ is

below : (c : After-below_lower) {b : Bool} → c.below_lower.result ≡ b → lt_z c.args.market c.args.terms.lower ≡ b
below c is = sym (rw (read c.ranges.market) at c.below_lower.ensures) ∙ is

-- ---- the goals
pub overflow_sub-market : goal.overflow_sub-market
overflow_sub-market c = let k = terms_small c.args.terms c.requires.0 in omega (fitting, k.upper, k.lower)

pub overflow_sub-terms : goal.overflow_sub-terms
overflow_sub-terms c = let k = terms_small c.args.terms c.requires.0 in omega (fitting, k.upper, k.lower)

pub returns-then-above_upper : goal.returns-then-above_upper
unfolding imbalance_of
returns-then-above_upper c =
    let d = goal.at.returns-then-above_upper c in
    simp (
      above d.After-above_upper c.if-above_upper.true,
      c.unsigned_abs.ensures.value,
      read c.ranges.market,
      upper d.Start,
      read (over d.Start),
    )

pub returns-then-below_lower : goal.returns-then-below_lower
unfolding imbalance_of
returns-then-below_lower c =
    let d = goal.at.returns-then-below_lower c in
    simp (
      above d.After-above_upper c.if-above_upper.false,
      below d.After-below_lower c.if-below_lower.true,
      c.unsigned_abs-then-below_lower.ensures.value,
      read c.ranges.market,
      lower d.Start,
      read (under d.Start),
    )

pub returns-else-below_lower : goal.returns-else-below_lower
unfolding imbalance_of
returns-else-below_lower c =
    let d = goal.at.returns-else-below_lower c in
    rw (above d.After-above_upper c.if-above_upper.false, below d.After-below_lower c.if-below_lower.false)

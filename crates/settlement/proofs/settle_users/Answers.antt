-- By the three cases of rule 2 (proofs/Users.antt). Assumes nothing.
use mathlib.Core.Path.{◌≡◌, sym, ap, ◌∙◌}
use mathlib.Core.Bool.{true, false}
use Prim.Native.Nat.{ℕ}
use lib.IntN.{ℤ, pos}
use Rattle.integers.proofs.Machine.{read, fits, read_le}
use Rattle.rules.specs.Limits.{market_most}
use Rattle.rules.specs.declared.Side.TheVariants.{Excess, Shortfall}
use Rattle.rules.specs.declared.Outcome.TheVariants.{Settled}
use Rattle.rules.specs.Market.{imbalance, outcome}
use Rattle.positions.specs.declared.Imbalance.{Imbalance}
use Rattle.positions.specs.Against.{found}
use Rattle.sides.specs.Sides.{side}
use Rattle.settlement.proofs.Users.{market_is, market_small, side-fits, side_asked, side_left, within_left}
use borrow.Author.Rules.{rules}
use native.Mathlib.Omega.{arith}
use Rattle.settlement.proofs.settle_users.Goals.{After-imbalance_of}
use Rattle.settlement.proofs.settle_users.Goals as goal

-- what was found is the imbalance of the positions before
against : (c : After-imbalance_of) {i : Imbalance} → c.imbalance_of.result ≡ i
    → found i ≡ imbalance c.args.terms.upper c.args.terms.lower c.add_amounts.new.positions
unfolding imbalance
against c is =
    sym (ap found is)
    ∙ rw (read c.ranges.market, market_is c.requires.1 _ c.add_amounts.ensures) at c.imbalance_of.ensures

pub imbalance_of-requires : goal.imbalance_of-requires
imbalance_of-requires c = (
  c.requires.1.terms,
  read_le c.args.market market_most (rw (market_is c.requires.1 _ c.add_amounts.ensures) (market_small c.requires.1 _ c.add_amounts.ensures)),
)

-- ---- in an excess
pub settle_side-marked-requires : goal.settle_side-marked-requires
unfolding side
settle_side-marked-requires c =
    let d = (goal.at.settle_side-marked-requires c).After-imbalance_of in
    side_asked c.requires.1 _ c.add_amounts.ensures true _ (against d c.in-Excess.is)

pub overflow_cast-result : goal.overflow_cast-result
unfolding side
overflow_cast-result c =
    let d = (goal.at.overflow_cast-result c).After-imbalance_of in
    fits (pos c.in-Excess.total) (omega (arith, side-fits c.requires.1 _ c.add_amounts.ensures true _ (against d c.in-Excess.is)))

pub returns-in-Excess : goal.returns-in-Excess
unfolding side outcome
returns-in-Excess c =
    let d = (goal.at.returns-in-Excess c).After-imbalance_of in
    let v = c.settle_side-marked.ensures in
    rw (read (overflow_cast-result c))
    (side_left c.requires.1 _ c.add_amounts.ensures true _ (against d c.in-Excess.is) _ _ _ _ v _
    (ap (Settled (Excess (pos c.in-Excess.total))) v.marked))

-- ---- in a shortfall
pub settle_side-marked-requires-in-Shortfall : goal.settle_side-marked-requires-in-Shortfall
unfolding side
settle_side-marked-requires-in-Shortfall c =
    let d = (goal.at.settle_side-marked-requires-in-Shortfall c).After-imbalance_of in
    side_asked c.requires.1 _ c.add_amounts.ensures false _ (against d c.in-Shortfall.is)

pub overflow_cast-result-in-Shortfall : goal.overflow_cast-result-in-Shortfall
unfolding side
overflow_cast-result-in-Shortfall c =
    let d = (goal.at.overflow_cast-result-in-Shortfall c).After-imbalance_of in
    fits (pos c.in-Shortfall.total) (omega (arith, side-fits c.requires.1 _ c.add_amounts.ensures false _ (against d c.in-Shortfall.is)))

pub returns-in-Shortfall : goal.returns-in-Shortfall
unfolding side outcome
returns-in-Shortfall c =
    let d = (goal.at.returns-in-Shortfall c).After-imbalance_of in
    let v = c.settle_side-marked-in-Shortfall.ensures in
    rw (read (overflow_cast-result-in-Shortfall c))
    (side_left c.requires.1 _ c.add_amounts.ensures false _ (against d c.in-Shortfall.is) _ _ _ _ v _
    (ap (Settled (Shortfall (pos c.in-Shortfall.total))) v.marked))

-- ---- within the thresholds
pub returns-in-Within : goal.returns-in-Within
returns-in-Within c =
    let d = (goal.at.returns-in-Within c).After-imbalance_of in
    let same = λ (x : ℤ) (e : x ≡ pos 0). e in
    within_left c.requires.1 _ c.add_amounts.ensures (against d c.in-Within.is) _ _ (record { quantity = search rules; money = search rules })
    (c.fill.ensures.after same) (c.fill-in-Within.ensures.after same) (c.fill-in-Within-2.ensures.after (λ (n : ℕ) (e : n ≡ 0). e))

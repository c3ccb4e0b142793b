-- By the imbalance that was found. Assumes nothing.
use mathlib.Core.Path.{◌≡◌, ap, ◌∙◌}
use Rattle.integers.proofs.Machine.{read, read_le}
use Rattle.rules.specs.Limits.{market_most}
use Rattle.rules.specs.Market.{Imbalance, imbalance}
use Rattle.rules.specs.Judging.{quantities_cause}
use Rattle.positions.specs.Before.{befores}
use Rattle.positions.specs.Against.{found}
use Rattle.judging.proofs.Asking.{market_asked, found_asked}
use Rattle.judging.proofs.part_quantities_cause.Goals.{After-imbalance_of-imbalance}
use Rattle.judging.proofs.part_quantities_cause.Goals as goal

-- what was found is the imbalance of the positions before
against : (c : After-imbalance_of-imbalance)
    → found c.imbalance_of-imbalance.result ≡ imbalance c.args.terms.upper c.args.terms.lower (befores c.args.part.now c.args.amounts.now)
unfolding imbalance
against c = rw (read c.ranges.market, c.requires.market) at c.imbalance_of-imbalance.ensures

pub imbalance_of-imbalance-requires : goal.imbalance_of-imbalance-requires
imbalance_of-imbalance-requires c = (c.requires.terms, read_le c.args.market market_most (market_asked c.requires))

pub quantities_cause-requires : goal.quantities_cause-requires
quantities_cause-requires c = found_asked c.requires _ (against (goal.at.quantities_cause-requires c).After-imbalance_of-imbalance)

pub returns : goal.returns
returns c =
    let a = c.args in
    c.quantities_cause.ensures
    ∙ ap (λ (i : Imbalance). quantities_cause i (befores a.part.now a.amounts.now) a.quantity.now) (against (goal.at.returns c).After-imbalance_of-imbalance)

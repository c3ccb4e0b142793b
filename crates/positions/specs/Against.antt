-- What the code finds of the market position, as rule 2 has it. Assumes nothing.
use Rattle.rules.specs.Market.{Imbalance, within, excess, shortfall}
use Rattle.positions.specs.declared.Imbalance.{Imbalance as Found}
use Rattle.positions.specs.declared.Imbalance.TheVariants.{Within, Excess, Shortfall}

abbrev pub found : Found → Imbalance
found Within = within
found (Excess n) = excess n
found (Shortfall n) = shortfall n

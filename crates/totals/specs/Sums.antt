-- The two sums of an hour from its imbalance. Who believes the rules need not believe these: no public contract cites them. Assumes nothing.
use Rattle.std.specs.Prelude.{pos}
use Rattle.rules.specs.declared.Sums.{Sums}
use Rattle.rules.specs.Market.{Imbalance, within, excess, shortfall}

abbrev pub total_sums : Imbalance → Sums
total_sums within = record { sold = pos 0; bought = pos 0 }
total_sums (excess n) = record { sold = pos n; bought = pos 0 }
total_sums (shortfall n) = record { sold = pos 0; bought = pos n }

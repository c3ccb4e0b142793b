-- The total is no more than the market position. Assumes nothing.
use Rattle.integers.proofs.Machine.{read}
use Rattle.totals.proofs.Hours.{total_small}
use Rattle.totals.proofs.hour_sums.Goals as goal

pub total_sums-requires : goal.total_sums-requires
total_sums-requires c = rw (c.imbalance_of.ensures, read c.ranges.market) (total_small c.args.terms c.args.market c.requires.0 c.requires.1)

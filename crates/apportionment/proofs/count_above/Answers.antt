-- Each turn counts one remainder. Assumes nothing.
use lib.Dec.{ltb}
use lib.ListN.{get_or}
use Rattle.integers.specs.Lists.{count}
use Rattle.integers.proofs.Counts.{bit_le, count-step}
use borrow.Author.Rules.{rules}
use native.Mathlib.Omega.{arith}
use Rattle.apportionment.proofs.count_above.Goals as goal

pub loop-remainder-init : goal.loop-remainder-init
unfolding count
loop-remainder-init c = search rules

pub loop-remainder-preserved : goal.loop-remainder-preserved
loop-remainder-preserved c =
    let a = c.args in
    let i = c.loop-remainder.remainder-index in
    omega (
      arith,
      count-step (λ r. ltb a.at r) a.remainders.now i 0 (omega arith),
      c.bit_above-n.ensures,
      bit_le (ltb a.at (get_or a.remainders.now i 0)),
    )

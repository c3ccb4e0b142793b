-- The two tests together. Assumes nothing.
use Rattle.integers.proofs.Machine.{read, zero_bits}
use Rattle.positions.specs.Against.{found}
use Rattle.judging.proofs.Users.{either}
use Rattle.judging.proofs.sign_right.Goals as goal

pub returns : goal.returns
returns c =
    let a = c.args in
    let fits = rw (read c.ranges.quantity) at c.sign_fit.ensures in
    let causes = rw (read c.ranges.position) at c.caused.ensures in
    rw (fits, causes, zero_bits {x = a.quantity} c.ranges.quantity) (either (found a.imbalance) a.position a.quantity)

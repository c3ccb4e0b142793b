-- The users' places are few, and in range. Assumes nothing.
use lib.ListN.{length-take}
use native.Mathlib.Omega.{arith}
use Rattle.integers.proofs.Passes.{every_take}
use Rattle.rules.specs.Limits.{position_fit}
use Rattle.rules.proofs.Small.{positions_small}
use Rattle.totals.proofs.part_sums.Goals as goal

pub sums_of-requires : goal.sums_of-requires
sums_of-requires c =
    let (few, room, fit) = c.requires in
    (simp length-take (omega (arith, few, room)), positions_small _ (every_take position_fit c.args.users _ fit))

-- The users passed so far. Assumes nothing.
use mathlib.Core.Path.{◌≡◌}
use Rattle.rules.specs.Judging.{sign_right}
use Rattle.positions.specs.Before.{befores}
use Rattle.positions.specs.Against.{found}
use Rattle.judging.proofs.Users.{each_so_far}
use Rattle.judging.proofs.signs_right.Given as goal

abbrev pub invariant-loop-user : goal.invariant-loop-user
invariant-loop-user l = l.right ≡ each_so_far (sign_right (found l.imbalance)) (befores l.part l.amounts) l.quantity l.user

-- The users gone to are raised; the units left and those handed out are all; where none is left, the last of them got one. Assumes nothing.
use lib.Dec.{ltb}
use Prim.Native.Nat.{◌+◌, ◌-◌, ◌≤◌}
use mathlib.Core.Path.{◌≡◌}
use lib.ListN.{length, get_or, take}
use Rattle.integers.proofs.Passes.{Written}
use Rattle.largest_remainder.specs.Cuts.{above}
use Rattle.apportionment.specs.Pass.{raised_by, through}
use Rattle.apportionment.proofs.hand_out.Given as goal

abbrev pub invariant-loop-units : goal.invariant-loop-units
invariant-loop-units l = record {
  place : l.visited ≤ length l.remainders;
  units : l.units + above (take l.visited l.remainders) l.at ≡ l.spare;
  raised : Written (raised_by l.remainders l.at l.initial.out) l.initial.out l.out l.visited;
  ends : l.units ≡ 0 → through (λ k. ltb l.at (get_or l.remainders k 0)) l.visited ≡ l.visited;
}

abbrev pub decreases-loop-units : goal.decreases-loop-units
decreases-loop-units l = length l.remainders - l.visited

-- Below the place the ties are broken; what is left is `ties` less the ties below it. Assumes nothing.
use Prim.Native.Nat.{◌-◌, ◌≤◌}
use mathlib.Core.Path.{◌≡◌}
use lib.ListN.{length, take}
use Rattle.integers.proofs.Passes.{Written}
use Rattle.largest_remainder.specs.Cuts.{same}
use Rattle.apportionment.specs.Steps.{ties_broken}
use Rattle.apportionment.proofs.break_ties.Given as goal

abbrev pub invariant-loop-left : goal.invariant-loop-left
invariant-loop-left l = record {
  place : l.place ≤ length l.initial.remainders;
  left : l.left ≡ l.fn.cut.ties - same (take l.place l.initial.remainders) l.fn.cut.at;
  broken : Written (ties_broken l.initial.remainders l.fn.cut.at l.fn.cut.ties) l.initial.remainders l.remainders l.place;
}

abbrev pub decreases-loop-left : goal.decreases-loop-left
decreases-loop-left l = length l.initial.remainders - l.place

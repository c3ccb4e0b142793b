-- A cut of `spare` lies between lo and hi: enough remainders are above lo, and `over` of them, no more than enough, above hi. Assumes nothing.
use Prim.Native.Nat.{◌-◌, ◌≤◌, ◌<◌}
use mathlib.Core.Path.{◌≡◌}
use Rattle.largest_remainder.specs.Cuts.{above}
use Rattle.apportionment.proofs.find_cut.Given as goal

abbrev pub invariant-loop-hi : goal.invariant-loop-hi
invariant-loop-hi l =
    (l.lo < l.hi) × (l.spare ≤ above l.remainders l.lo) × (l.over ≡ above l.remainders l.hi) × (l.over ≤ l.spare) × (l.hi ≤ l.top)

abbrev pub decreases-loop-hi : goal.decreases-loop-hi
decreases-loop-hi l = l.hi - l.lo

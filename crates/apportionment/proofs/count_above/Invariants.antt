-- Each turn counts one remainder. Assumes nothing.
use mathlib.Core.Path.{◌≡◌}
use Prim.Native.Nat.{◌≤◌}
use lib.ListN.{take}
use Rattle.largest_remainder.specs.Cuts.{above}
use Rattle.apportionment.proofs.count_above.Given as goal

abbrev pub invariant-loop-remainder : goal.invariant-loop-remainder
invariant-loop-remainder l = (l.n ≡ above (take l.remainder-index l.remainders) l.at) × (l.n ≤ l.remainder-index)

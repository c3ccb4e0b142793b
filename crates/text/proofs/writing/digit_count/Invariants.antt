-- Each turn takes the last digit of what is left. Assumes nothing.
use mathlib.Core.Path.{◌≡◌}
use Prim.Native.Nat.{◌+◌, ◌^◌, ◌<◌}
use lib.ListN.{length}
use Rattle.text.specs.Decimals.{digits}
use Rattle.text.proofs.writing.digit_count.Given as goal

abbrev pub invariant-loop-rest : goal.invariant-loop-rest
invariant-loop-rest l = (l.count + length (digits l.rest) ≡ length (digits l.n) + 1) × (l.rest < 2 ^ 64)

abbrev pub decreases-loop-rest : goal.decreases-loop-rest
decreases-loop-rest l = l.rest

-- The digits from `i` on, with `value` in front of them, say what all of them say. Assumes nothing.
use mathlib.Core.Path.{◌≡◌}
use Prim.Native.Nat.{◌^◌, ◌<◌}
use lib.ListN.{drop}
use Rattle.text.specs.Numbers.{digits_from}
use Rattle.text.proofs.number.digits.Given as goal

abbrev pub invariant-loop-b : goal.invariant-loop-b
invariant-loop-b l = record {
  small : l.value < 10 ^ l.b-index;
  same : digits_from l.value (drop l.b-index l.field) ≡ digits_from 0 l.field;
}

-- The word of the last positions. Assumes nothing.
use mathlib.Core.Path.{◌≡◌}
use Prim.Native.Nat.{◌-◌}
use mathlib.Core.List.{map}
use lib.ListN.{length, drop}
use Rattle.rules.specs.Market.{caused, word}
use Rattle.sides.specs.Sides.{side}
use Rattle.sides.proofs.word_of.Given as goal

abbrev pub invariant-loop-position : goal.invariant-loop-position
invariant-loop-position l =
    l.word ≡ word (map (caused (side l.up 0)) (drop (length l.positions - length l.yielded) l.positions))

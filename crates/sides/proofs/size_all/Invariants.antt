-- Each turn writes a size. Assumes nothing.
use mathlib.Core.List.{map}
use Rattle.integers.proofs.Passes.{Written}
use Rattle.rules.specs.Market.{size}
use Rattle.sides.specs.Sides.{side}
use Rattle.sides.proofs.size_all.Given as goal

abbrev pub invariant-loop-i : goal.invariant-loop-i
invariant-loop-i l = Written (map (size (side l.up 0)) l.positions) l.initial.sizes l.sizes l.i

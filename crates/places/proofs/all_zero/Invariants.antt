-- The bits of the places passed so far, by `|`. Assumes nothing.
use mathlib.Core.Path.{◌≡◌}
use lib.Dec.{eqb}
use mir.Syntax.{w64}
use mir.Val.{of_z}
use lib.ListN.{take}
use Rattle.integers.specs.Ranges.{is_zero}
use Rattle.integers.specs.Lists.{every}
use Rattle.places.proofs.all_zero.Given as goal

abbrev pub invariant-loop-place : goal.invariant-loop-place
invariant-loop-place l = eqb (of_z w64 l.all) 0 ≡ every is_zero (take l.place-index l.places)

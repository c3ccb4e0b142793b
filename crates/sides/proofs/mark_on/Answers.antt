-- By the test of the turned position. Assumes nothing.
use mathlib.Core.Path.{◌≡◌, refl, ◌∙◌}
use mathlib.Core.Bool.{Bool, true, false}
use mir.Val.{bool_byte}
use Rattle.integers.specs.Lists.{bit}
use Rattle.integers.proofs.Machine.{read, back}
use Rattle.sides.proofs.Turning.{caused-turn}
use Rattle.sides.proofs.mark_on.Goals as goal

bit_is : (b : Bool) → bool_byte b ≡ bit b
bit_is true = refl
bit_is false = refl

pub returns : goal.returns
returns c =
    let is = back _ c.turned.type_inv ∙ rw (read c.ranges.position) at c.turned.ensures in
    rw (c.from.ensures, is, caused-turn c.args.up c.args.position) (bit_is _)

-- After so many turns `at` is where the field of that number begins. Assumes nothing.
use Prim.Native.Nat.{◌+◌}
use native.Mathlib.Omega.{arith}
use Rattle.csv_lines.specs.Steps.{FieldStart}
use Rattle.csv_lines.proofs.Fields.{start-next}
use Rattle.csv_lines.proofs.field_start.Goals.{After-field_end-at}
use Rattle.csv_lines.proofs.field_start.Goals as goal

-- the next field
next : (c : After-field_end-at) → FieldStart c.args.line.now (c.loop.counter + 1) (c.field_end-at.result + 1)
next c = rw c.field_end-at.ensures (start-next c.args.line.now c.loop.at c.loop.counter c.loop.invariant (omega arith))

pub overflow_add-at : goal.overflow_add-at
overflow_add-at c = let n = next (goal.at.overflow_add-at c).After-field_end-at in omega (arith, n.within)

pub loop-preserved : goal.loop-preserved
loop-preserved c = next (goal.at.loop-preserved c).After-field_end-at

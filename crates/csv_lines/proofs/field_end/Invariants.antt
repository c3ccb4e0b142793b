-- What is left of the field from `i` on ends where the field ends. Assumes nothing.
use mathlib.Core.Path.{◌≡◌}
use Prim.Native.Nat.{◌+◌}
use lib.ListN.{drop}
use Rattle.csv_lines.specs.Steps.{field_len}
use Rattle.csv_lines.proofs.field_end.Given as goal

abbrev pub invariant-loop-i : goal.invariant-loop-i
invariant-loop-i l = l.i + field_len (drop l.i l.line) ≡ l.from + field_len (drop l.from l.line)

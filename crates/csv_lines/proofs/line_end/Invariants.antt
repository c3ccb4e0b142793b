-- What is left of the line from `i` on ends where the line ends. Assumes nothing.
use mathlib.Core.Path.{◌≡◌}
use Prim.Native.Nat.{◌+◌}
use lib.ListN.{drop}
use Rattle.csv_lines.specs.Steps.{line_len}
use Rattle.csv_lines.proofs.line_end.Given as goal

abbrev pub invariant-loop-i : goal.invariant-loop-i
invariant-loop-i l = l.i + line_len (drop l.i l.file) ≡ l.from + line_len (drop l.from l.file)

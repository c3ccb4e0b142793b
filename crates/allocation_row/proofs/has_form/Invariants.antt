-- The bytes from the index on are plain where all are, and have the fields that `count` does not count yet. Assumes nothing.
use mathlib.Core.Path.{◌≡◌}
use Prim.Native.Nat.{◌+◌, ◌≤◌}
use lib.ListN.{length, drop}
use Rattle.integers.specs.Lists.{every}
use Rattle.csv_lines.specs.Lines.{fields}
use Rattle.allocation_row.specs.Rows.{is_plain}
use Rattle.allocation_row.proofs.has_form.Given as goal

abbrev pub invariant-loop-b : goal.invariant-loop-b
invariant-loop-b l = record {
  few : l.count ≤ l.b-index + 1;
  plain : every is_plain l.line ≡ every is_plain (drop l.b-index l.line);
  counted : l.count + length (fields (drop l.b-index l.line)) ≡ 1 + length (fields l.line);
}

-- After so many turns `at` is where the field of that number begins. Assumes nothing.
use Rattle.csv_lines.specs.Steps.{FieldStart}
use Rattle.csv_lines.proofs.field_start.Given as goal

abbrev pub invariant-loop : goal.invariant-loop
invariant-loop l = FieldStart l.line l.counter l.at

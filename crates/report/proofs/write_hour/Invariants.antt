-- Each turn writes a user's line. Assumes nothing.
use Rattle.std.proofs.Common.{◌+◌, ◌*◌, ◌≤◌}
use Rattle.text.specs.Puts.{Wrote}
use Rattle.report.specs.Text.{user_lines}
use Rattle.report.proofs.write_hour.Given as goal

abbrev pub invariant-loop-i : goal.invariant-loop-i
invariant-loop-i l = record {
  short : l.writer.end ≤ l.initial.writer.end + l.i * 106;
  lines : Wrote l.initial.writer l.writer (user_lines l.before l.quantity l.money l.after l.i);
}

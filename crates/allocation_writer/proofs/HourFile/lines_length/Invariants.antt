-- Each turn adds the length of one line. Assumes nothing.
use Rattle.allocation_writer.specs.Steps.{content_of}
use Rattle.allocation_writer.proofs.Lines.{Added}
use Rattle.allocation_writer.proofs.HourFile.lines_length.Given as goal

abbrev pub invariant-loop-place : goal.invariant-loop-place
invariant-loop-place l = Added (content_of l.self) l.total l.place

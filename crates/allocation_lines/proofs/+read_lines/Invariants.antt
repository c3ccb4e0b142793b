-- By a measure that falls with each line: what is left of the file. A row is stored once the lines after it are read. Assumes nothing.
use Prim.Native.Nat.{◌-◌}
use lib.ListN.{length}
use Rattle.allocation_lines.proofs.+read_lines.Given as goal

abbrev pub decreases-read_lines : goal.decreases-read_lines
decreases-read_lines l = length l.file.now - l.at

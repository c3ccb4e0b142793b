-- The part up to the line's end is the line. Assumes nothing.
use native.Mathlib.Omega.{arith}
use Rattle.csv_lines.proofs.Lines.{line_within}
use Rattle.csv_lines.proofs.line_at.Goals as goal

pub slice_bounds-result-end : goal.slice_bounds-result-end
slice_bounds-result-end c =
    omega (arith, c.line_end-end.ensures, line_within c.args.file.now c.args.from c.requires)

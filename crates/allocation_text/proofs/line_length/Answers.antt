-- The lengths of the numbers, and nine bytes more. Assumes nothing.
use native.Mathlib.Omega.{arith}
use borrow.Author.Rules.{rules}
use Rattle.integers.proofs.Machine.{back}
use Rattle.allocation_text.proofs.Parts.{line_long}
use Rattle.allocation_text.proofs.line_length.Goals as goal

pub returns : goal.returns
returns c =
    let r = c.args.row in
    let entry = rw (back r.entry (search rules)) at c.decimal_length.ensures in
    let exit = rw (back r.exit (search rules)) at c.decimal_length-2.ensures in
    let title = rw (back r.title (search rules)) at c.decimal_length-3.ensures in
    let pooling = rw (back r.pooling (search rules)) at c.decimal_length-4.ensures in
    let h = c.digit_count.ensures in
    let k = c.digit_count-2.ensures in (
      omega (arith, line_long r, h.0, k.0, entry.0, exit.0, title.0, pooling.0),
      omega (arith, h.1, k.1, entry.1, exit.1, title.1, pooling.1),
    )

-- The bytes from the index on are plain where all are, and have the fields that `count` does not count yet. Assumes nothing.
use mathlib.Core.Path.{◌≡◌, sym, ap, ◌∙◌}
use mathlib.Core.List.{List}
use Prim.Native.Nat.{ℕ}
use native.Mathlib.Omega.{arith}
use lib.ListN.{length, drop_of_length-le}
use borrow.Author.Rules.{rules}
use Rattle.integers.proofs.Passes.{every_end, every-next, every_stop}
use Rattle.csv_lines.specs.Lines.{fields}
use Rattle.allocation_row.specs.Rows.{is_plain}
use Rattle.csv_lines.proofs.Fields.{count-comma, count_other}
use Rattle.allocation_row.proofs.has_form.Goals as goal
use Rattle.allocation_row.proofs.has_form.Goals.{then-b-eq44, else-b-eq44}

pub returns-then-not-is_plain : goal.returns-then-not-is_plain
returns-then-not-is_plain c =
    let l = c.args.line.now in
    let odd = sym c.is_plain.ensures ∙ c.if-not-is_plain.true in
    sym (rw (c.loop-b.invariant.plain ∙ every_stop is_plain l c.loop-b.b-index 0 (search rules) odd))

pub loop-b-preserved : goal.loop-b-preserved
loop-b-preserved c =
    let l = c.args.line.now in
    let i = c.loop-b.b-index in
    let plain = sym c.is_plain.ensures ∙ c.if-not-is_plain.false in
    let p = c.loop-b.invariant.plain ∙ every-next is_plain l i 0 (search rules) plain in
    elim c.if-b-eq44.branch [
      | then-b-eq44 w ↦
          record { few = omega (arith, c.loop-b.invariant.few); plain = p; counted = omega (arith, c.loop-b.invariant.counted, count-comma l i (search rules) w.if-b-eq44.true) }
      | else-b-eq44 w ↦
          record { few = omega (arith, c.loop-b.invariant.few); plain = p; counted = omega (arith, c.loop-b.invariant.counted, count_other l i (search rules) w.if-b-eq44.false) }
    ]

pub returns : goal.returns
returns c =
    let l = c.args.line.now in
    let e = drop_of_length-le l {i = c.loop-b.b-index} (search rules) in
    let n : length (fields l) ≡ c.loop-b.count = omega (arith, c.loop-b.invariant.counted, ap (λ (l : List ℕ). length (fields l)) e) in
    rw (c.loop-b.invariant.plain ∙ every_end is_plain l c.loop-b.b-index (search rules), n)

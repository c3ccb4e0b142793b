-- The part from the field's start to its end is the field. Assumes nothing.
use mathlib.Core.Path.{◌≡◌}
use Prim.Native.Nat.{◌-◌}
use native.Mathlib.Omega.{arith}
use lib.ListN.{drop}
use Rattle.csv_lines.specs.Steps.{field_len}
use Rattle.csv_lines.proofs.Fields.{field_within, field_is}
use Rattle.csv_lines.proofs.field.Goals as goal

pub slice_bounds-result-end : goal.slice_bounds-result-end
slice_bounds-result-end c =
    let s = c.field_start-start in
    omega (arith, c.field_end-end.ensures, field_within c.args.line.now s.result s.ensures.within)

pub returns : goal.returns
returns c =
    let a = c.args in
    let s = c.field_start-start in
    let e : c.field_end-end.result - s.result ≡ field_len (drop s.result a.line.now) = omega (arith, c.field_end-end.ensures) in
    rw e (field_is a.line.now s.result a.k s.ensures)

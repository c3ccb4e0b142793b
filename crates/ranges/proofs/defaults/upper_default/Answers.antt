-- The row and the column are within the table. Assumes nothing.
use mathlib.Core.Path.{◌≡◌, ◌∙◌, ap}
use Prim.Native.Nat.{◌*◌, ◌^◌, ◌<◌}
use native.Mathlib.Omega.{arith}
use lib.IntN.{pos, ◌-ℤ◌}
use Rattle.integers.specs.Ranges.{natural}
use Rattle.integers.proofs.Machine.{read, back, fitting}
use Rattle.rules.specs.Thresholds.{upper_default}
use Rattle.ranges.proofs.Lookup.{row_fits, month_size, less_one, column_fits}
use Rattle.ranges.proofs.defaults.upper_default.Goals.{After-natural-column}
use Rattle.ranges.proofs.defaults.upper_default.Goals as goal

row : (c : After-natural-column) → c.natural-row.result ≡ natural c.args.zone
row c = c.natural-row.ensures ∙ ap natural (read c.ranges.zone)

column : (c : After-natural-column) → c.natural-column.result ≡ natural (c.args.month -ℤ pos 1)
column c = rw (read c.ranges.month, back (c.args.month -ℤ pos 1) (less_one c.args.month c.requires.1)) at c.natural-column.ensures

pub overflow_sub-month : goal.overflow_sub-month
overflow_sub-month c = omega (fitting, month_size c.args.month c.requires.1)

pub upper_gwh-requires : goal.upper_gwh-requires
upper_gwh-requires c =
    let d = (goal.at.upper_gwh-requires c).After-natural-column in
    (rw (row d) (row_fits c.args.zone c.requires.0), rw (column d) (column_fits c.args.month c.requires.1))

pub returns : goal.returns
unfolding upper_default
returns c =
    let d = (goal.at.returns c).After-natural-column in
    let gwh = back c.from.result c.from.type_inv ∙ c.from.ensures in
    let small : c.upper_gwh.result * 1_000_000 < 2 ^ 63 = omega arith in
    rw gwh (back (pos (c.upper_gwh.result * 1_000_000)) small ∙ ap (λ n. pos (n * 1_000_000)) (rw (row d, column d) at c.upper_gwh.ensures))

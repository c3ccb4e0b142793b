-- The two sums fit. Assumes nothing.
use mathlib.Core.Path.{ap₂}
use native.Mathlib.Omega.{arith}
use lib.IntN.{ℤ}
use borrow.Author.Rules.{rules}
use Rattle.rules.specs.declared.Sums.{Sums}
use Rattle.day_record.proofs.Records.{added}
use Rattle.day_record.proofs.totals_with.Goals as goal

abbrev both : ℤ → ℤ → Sums
both x y = record { sold = x; bought = y }

pub returns : goal.returns
returns c =
    let a = c.args in
    let (sums, part) = c.requires in
    ap₂ both
    (added a.part.sold a.sums.sold (search rules) (search rules) (omega (arith, part.sold, sums.sold)))
    (added a.part.bought a.sums.bought (search rules) (search rules) (omega (arith, part.bought, sums.bought)))

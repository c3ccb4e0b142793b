-- The sums are small, since the table fits. Assumes nothing.
use mathlib.Core.Path.{◌≡◌, ap, ◌∙◌}
use lib.ListN.{take}
use Rattle.std.specs.Prelude.{Ok, Err}
use Rattle.std.proofs.lemmas.Result.{err_from_is_err_and}
use Rattle.integers.proofs.Machine.{back}
use Rattle.rules.specs.declared.Cause.TheVariants as cause
use Rattle.rules.specs.declared.Sums.{Sums}
use Rattle.rules.specs.Days.{users, part}
use Rattle.rules.specs.Market.{sums}
use Rattle.rules.specs.Refusals.{unless}
use Rattle.rules.specs.Causes.{totals_bounded}
use Rattle.rules.proofs.Accepted.{users_of_lem, part-fits}
use Rattle.causes.proofs.Totals.{closing_small}
use borrow.Author.Rules.{rules}
use Rattle.causes.proofs.closing_totals_cause.Goals.{After-closing_sums-sums, After-require}
use Rattle.causes.proofs.closing_totals_cause.Goals as goal

-- the two sums
summed : (c : After-closing_sums-sums) → let a = c.args in c.closing_sums-sums.result ≡ sums (take (users a.day) (part a.terms.zone a.table.now))
unfolding users
summed c =
    let a = c.args in
    rw (c.natural-users.ensures, back a.day.users (search rules), back a.terms.zone (search rules)) at c.closing_sums-sums.ensures

-- the test of them
tested : (c : After-require) {s : Sums} → c.closing_sums-sums.result ≡ s → c.require.result ≡ unless (totals_bounded c.args.terms.zone s c.args.day) cause.Totals
tested c is = rw (c.totals_bounded-bounded.ensures, is, back c.args.terms.zone (search rules)) at c.require.ensures

pub closing_sums-sums-requires : goal.closing_sums-sums-requires
unfolding users
closing_sums-sums-requires c =
    let a = c.args in
    rw (c.natural-users.ensures, back a.day.users (search rules), back a.terms.zone (search rules))
    ((users_of_lem a.day c.requires.0).1, c.requires.1, part-fits a.terms.zone a.day a.table.now c.requires.2)

pub totals_bounded-bounded-requires : goal.totals_bounded-bounded-requires
totals_bounded-bounded-requires c =
    let a = c.args in
    (c.requires.0, rw (summed (goal.at.totals_bounded-bounded-requires c).After-closing_sums-sums) (closing_small a.day a.table.now a.terms.zone c.requires.0 c.requires.2))

pub returns-in_err-require : goal.returns-in_err-require
returns-in_err-require c =
    let d = goal.at.returns-in_err-require c in
    let p = err_from_is_err_and c.from_residual.result c.from_residual.ensures.1 in
    rw (← tested d.After-require (summed d.After-closing_sums-sums), c.in_err-require.was) (p.1 ∙ ap Err p.2)

pub returns : goal.returns
returns c =
    let d = goal.at.returns c in
    let is = summed d.After-closing_sums-sums in
    rw (← tested d.After-require is, c.in_ok-require.was) (ap Ok is)

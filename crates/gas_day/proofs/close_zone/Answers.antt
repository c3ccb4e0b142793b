-- By the cause. Assumes nothing.
use mathlib.Core.Path.{◌≡◌, sym, ap, ◌∙◌}
use Rattle.std.specs.Prelude.{Ok, Err}
use Rattle.std.proofs.lemmas.Result.{err_from_is_err_and}
use Rattle.integers.proofs.Machine.{back}
use Rattle.rules.specs.Hours.{closing_given}
use Rattle.rules.specs.Market.{closing_sums}
use Rattle.rules.specs.Refusals.{◌then◌}
use Rattle.rules.specs.Causes.{closing_cause}
use Rattle.rules.proofs.Refusing.{then_err, with_day_ok, with_day_err}
use Rattle.gas_day.proofs.Closings.{not_closed, day_fits_lem, asks, sums_are_small, done}
use borrow.Author.Rules.{rules}
use Rattle.gas_day.proofs.close_zone.Goals.{In_ok-sums}
use Rattle.gas_day.proofs.close_zone.Goals as goal

-- no cause, and the two sums
past : (c : In_ok-sums) → let a = c.args in let g = closing_given a.terms a.outputs.now in
    (closing_cause a.day a.table.now g then Ok (closing_sums a.day a.table.now g)) ≡ Ok c.in_ok-sums.sums
past c = sym c.closing_cause-cause.ensures ∙ with_day_ok c.args.day (sym c.refused.ensures ∙ c.in_ok-sums.was)

pub returns-in_err-sums-clause-closed : goal.returns-in_err-sums-clause-closed
returns-in_err-sums-clause-closed c =
    let a = c.args in
    let p = err_from_is_err_and c.from_residual.result c.from_residual.ensures.1 in
    let (cause, refusal) = with_day_err a.day _ (sym c.refused.ensures ∙ c.in_err-sums.was) in
    not_closed a.day a.table.now a.terms a.outputs.now
    (then_err _ _ (rw c.closing_cause-cause.ensures at cause)) (p.1 ∙ ap Err (p.2 ∙ refusal))

pub close_table-requires : goal.close_table-requires
close_table-requires c =
    let a = c.args in
    asks a.day a.table.now a.terms a.outputs.now (past (goal.at.close_table-requires c).In_ok-sums)

pub day_after_closing-next-requires : goal.day_after_closing-next-requires
day_after_closing-next-requires c =
    let a = c.args in
    let e = past (goal.at.day_after_closing-next-requires c).In_ok-sums in
    (day_fits_lem a.day a.table.now a.terms a.outputs.now e, sums_are_small a.day a.table.now a.terms a.outputs.now e)

pub returns : goal.returns
returns c =
    let a = c.args in
    let sums = c.in_ok-sums.sums in
    let left = c.close_table.ensures in
    record {
      same = left.lists.same;
      closed =
          rw (back sums.sold (search rules), back sums.bought (search rules))
          (done a.day a.table.now a.terms a.outputs.now (past (goal.at.returns c).In_ok-sums) _ _ _ left
          (rw (back a.terms.zone (search rules)) at c.day_after_closing-next.ensures));
    }

-- By the cause. Assumes nothing.
use mathlib.Core.Path.{◌≡◌, sym, ap, ◌∙◌}
use Rattle.std.specs.Prelude.{Ok, Err}
use Rattle.std.proofs.lemmas.Result.{err_from_is_err_and}
use Rattle.integers.specs.Lists.{sum_ℤ}
use Rattle.integers.proofs.Machine.{back}
use Rattle.rules.specs.Hours.{hour_given, before}
use Rattle.rules.specs.Refusals.{◌then◌}
use Rattle.rules.specs.Causes.{preview_cause}
use Rattle.rules.proofs.Refusing.{then_err, with_day_ok, with_day_err}
use Rattle.gas_day.proofs.Previews.{not_previewed, copy_asked, previewed}
use borrow.Author.Rules.{rules}
use Rattle.gas_day.proofs.preview_hour.Goals.{In_ok-market}
use Rattle.gas_day.proofs.preview_hour.Goals as goal

-- no cause, and the market position
past : (c : In_ok-market) → let a = c.args in let g = hour_given a.terms a.amounts.now a.outputs.now a.scratch.now in
    (preview_cause a.day a.table.now g a.after.now then Ok (sum_ℤ (before a.day a.table.now g))) ≡ Ok c.in_ok-market.market
past c = sym c.preview_cause-cause.ensures ∙ with_day_ok c.args.day (sym c.refused.ensures ∙ c.in_ok-market.was)

pub returns-in_err-market-clause-previewed : goal.returns-in_err-market-clause-previewed
returns-in_err-market-clause-previewed c =
    let a = c.args in
    let p = err_from_is_err_and c.from_residual.result c.from_residual.ensures.1 in
    let (cause, refusal) = with_day_err a.day _ (sym c.refused.ensures ∙ c.in_err-market.was) in
    not_previewed a.day a.table.now a.terms a.amounts.now a.outputs.now a.scratch.now a.after.now
    (then_err _ _ (rw c.preview_cause-cause.ensures at cause)) (p.1 ∙ ap Err (p.2 ∙ refusal))

pub settle_copy-outcome-requires : goal.settle_copy-outcome-requires
settle_copy-outcome-requires c =
    let a = c.args in
    rw (back c.in_ok-market.market (search rules))
    (copy_asked a.day a.table.now a.terms a.amounts.now a.outputs.now a.scratch.now a.after.now (past (goal.at.settle_copy-outcome-requires c).In_ok-market))

pub returns : goal.returns
returns c =
    let a = c.args in
    let left = c.settle_copy-outcome.ensures in
    record {
      same = left.lists.same;
      previewed =
          previewed a.day a.table.now a.terms a.amounts.now a.outputs.now a.scratch.now a.after.now (past (goal.at.returns c).In_ok-market) _ _ _ _ left;
    }

-- By the cause. Assumes nothing.
use mathlib.Core.Path.{◌≡◌, sym, ap, ◌∙◌}
use Rattle.std.specs.Prelude.{Ok, Err}
use Rattle.std.proofs.lemmas.Result.{err_from_is_err_and}
use Rattle.integers.specs.Lists.{sum_ℤ}
use Rattle.integers.proofs.Machine.{back}
use Rattle.rules.specs.Hours.{hour_given, before}
use Rattle.rules.specs.Refusals.{◌then◌}
use Rattle.rules.specs.Market.{hour_sums}
use Rattle.rules.specs.Causes.{hour_cause}
use Rattle.rules.proofs.Refusing.{then_err, with_day_ok, with_day_err}
use Rattle.gas_day.proofs.Hours.{not_done, day_fits_lem, asks, sums_asked, sums_told, sums_small, done}
use borrow.Author.Rules.{rules}
use Rattle.gas_day.proofs.settle_hour.Goals.{In_ok-market, After-hour_sums-sums}
use Rattle.gas_day.proofs.settle_hour.Goals as goal

-- no cause, and the market position
past : (c : In_ok-market) → let a = c.args in let g = hour_given a.terms a.amounts.now a.outputs.now a.scratch.now in
    (hour_cause a.day a.table.now g then Ok (sum_ℤ (before a.day a.table.now g))) ≡ Ok c.in_ok-market.market
past c = sym c.hour_cause-cause.ensures ∙ with_day_ok c.args.day (sym c.refused.ensures ∙ c.in_ok-market.was)

pub returns-in_err-market-clause-settled : goal.returns-in_err-market-clause-settled
returns-in_err-market-clause-settled c =
    let a = c.args in
    let p = err_from_is_err_and c.from_residual.result c.from_residual.ensures.1 in
    let (cause, refusal) = with_day_err a.day _ (sym c.refused.ensures ∙ c.in_err-market.was) in
    not_done a.day a.table.now a.terms a.amounts.now a.outputs.now a.scratch.now
    (then_err _ _ (rw c.hour_cause-cause.ensures at cause)) (p.1 ∙ ap Err (p.2 ∙ refusal))

pub settle_table-outcome-requires : goal.settle_table-outcome-requires
settle_table-outcome-requires c =
    let a = c.args in
    rw (back c.in_ok-market.market (search rules))
    (asks a.day a.table.now a.terms a.amounts.now a.outputs.now a.scratch.now (past (goal.at.settle_table-outcome-requires c).In_ok-market))

pub hour_sums-sums-requires : goal.hour_sums-sums-requires
hour_sums-sums-requires c =
    let a = c.args in
    rw (back c.in_ok-market.market (search rules))
    (sums_asked a.day a.table.now a.terms a.amounts.now a.outputs.now a.scratch.now (past (goal.at.hour_sums-sums-requires c).In_ok-market))

-- what the hour sells and buys
summed : (c : After-hour_sums-sums) → let a = c.args in let g = hour_given a.terms a.amounts.now a.outputs.now a.scratch.now in
    (hour_cause a.day a.table.now g then Ok (sum_ℤ (before a.day a.table.now g))) ≡ Ok c.in_ok-market.market → c.hour_sums-sums.result ≡ hour_sums a.day a.table.now g
summed c e =
    let a = c.args in
    rw (back c.in_ok-market.market (search rules)) at c.hour_sums-sums.ensures
    ∙ sums_told a.day a.table.now a.terms a.amounts.now a.outputs.now a.scratch.now e

pub day_after_hour-next-requires : goal.day_after_hour-next-requires
day_after_hour-next-requires c =
    let a = c.args in
    let d = goal.at.day_after_hour-next-requires c in
    let e = past d.In_ok-market in (
      day_fits_lem a.day a.table.now a.terms a.amounts.now a.outputs.now a.scratch.now e,
      rw (summed d.After-hour_sums-sums e) (sums_small a.day a.table.now a.terms a.amounts.now a.outputs.now a.scratch.now e),
    )

pub returns : goal.returns
returns c =
    let a = c.args in
    let d = goal.at.returns c in
    let e = past d.In_ok-market in
    let left = c.settle_table-outcome.ensures in
    record {
      same = left.lists.same;
      settled =
          done a.day a.table.now a.terms a.amounts.now a.outputs.now a.scratch.now e _ _ _ _ _ left
          (rw (back a.terms.zone (search rules), summed d.After-hour_sums-sums e) at c.day_after_hour-next.ensures);
    }

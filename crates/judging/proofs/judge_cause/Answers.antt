-- Causes 2 to 11, and past them the others. Assumes nothing.
use mathlib.Core.Path.{◌≡◌, sym, ap, ◌∙◌}
use Rattle.std.specs.Prelude.{Ok, Err}
use Rattle.integers.specs.Lists.{sum_ℤ}
use Rattle.integers.proofs.Machine.{back}
use Rattle.rules.specs.Hours.{inputs_given, before}
use Rattle.rules.specs.Refusals.{◌then◌}
use Rattle.rules.specs.Causes.{judge_inputs_cause}
use Rattle.rules.proofs.Refusing.{then_err}
use Rattle.std.proofs.lemmas.Result.{err_from_is_err_and}
use Rattle.rules.specs.Judging.{judge_cause}
use Rattle.judging.proofs.Asking.{table_asked, judged}
use borrow.Author.Rules.{rules}
use Rattle.judging.proofs.judge_cause.Goals.{In_ok-market}
use Rattle.judging.proofs.judge_cause.Goals as goal

pub returns-in_err-market : goal.returns-in_err-market
unfolding judge_cause
returns-in_err-market c =
    let p = err_from_is_err_and c.from_residual.result c.from_residual.ensures.1 in
    rw (then_err _ _ (sym c.judge_inputs_cause.ensures ∙ c.in_err-market.was)) (p.1 ∙ ap Err p.2)

-- the market position, past 2 to 11
past : (c : In_ok-market) → let a = c.args in
    (judge_inputs_cause a.day a.table.now (inputs_given a.terms a.amounts.now) a.quantity.now then Ok (sum_ℤ (before a.day a.table.now (inputs_given a.terms a.amounts.now))))
    ≡ Ok c.in_ok-market.market
past c = sym c.judge_inputs_cause.ensures ∙ c.in_ok-market.was

pub zone_quantities_cause-requires : goal.zone_quantities_cause-requires
zone_quantities_cause-requires c =
    let a = c.args in
    rw (back c.in_ok-market.market (search rules)) (table_asked a.day a.table.now a.terms a.amounts.now a.quantity.now (past c))

pub returns : goal.returns
returns c =
    let a = c.args in
    c.zone_quantities_cause.ensures ∙ judged a.day a.table.now a.terms a.amounts.now a.quantity.now (past (goal.at.returns c).In_ok-market)

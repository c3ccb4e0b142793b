-- The market position is small, since no cause of 4 to 11 applies, and tells what the hour sells or buys. Assumes nothing.
use mathlib.Core.Path.{◌≡◌, sym, ap, ◌∙◌}
use Rattle.std.specs.Prelude.{Ok, Err}
use Rattle.std.proofs.lemmas.Result.{err_from_is_err_and}
use Rattle.integers.specs.Lists.{sum_ℤ}
use Rattle.integers.proofs.Machine.{back}
use Rattle.rules.specs.declared.Cause.TheVariants as cause
use Rattle.rules.specs.declared.Sums.{Sums}
use Rattle.rules.specs.Hours.{inputs_given, before}
use Rattle.rules.specs.Market.{hour_sums}
use Rattle.rules.specs.Guarantees.{InputsFit}
use Rattle.rules.specs.Refusals.{unless}
use Rattle.rules.specs.Causes.{totals_bounded}
use Rattle.rules.proofs.Accepted.{fit_inputs}
use Rattle.totals.proofs.Hours.{market_asked, hour_told, hour_small}
use Rattle.causes.proofs.Totals.{inputs_past}
use borrow.Author.Rules.{rules}
use Rattle.causes.proofs.inputs_and_totals_cause.Goals.{In_ok-market, After-hour_sums-sums, After-require}
use Rattle.causes.proofs.inputs_and_totals_cause.Goals as goal

past : (c : In_ok-market) → let a = c.args in
    InputsFit a.day a.table.now (inputs_given a.terms a.amounts.now) × (sum_ℤ (before a.day a.table.now (inputs_given a.terms a.amounts.now)) ≡ c.in_ok-market.market)
past c = let a = c.args in inputs_past a.day a.table.now (inputs_given a.terms a.amounts.now) (sym c.inputs_cause.ensures ∙ c.in_ok-market.was)

-- the sums, and the test of them
module _ (c : After-hour_sums-sums) (f : InputsFit c.args.day c.args.table.now (inputs_given c.args.terms c.args.amounts.now))
    (is : sum_ℤ (before c.args.day c.args.table.now (inputs_given c.args.terms c.args.amounts.now)) ≡ c.in_ok-market.market) where
  summed : c.hour_sums-sums.result ≡ hour_sums c.args.day c.args.table.now (inputs_given c.args.terms c.args.amounts.now)
  summed =
      let a = c.args in
      rw (back c.in_ok-market.market (search rules), ← is) at c.hour_sums-sums.ensures
      ∙ hour_told a.day a.table.now (inputs_given a.terms a.amounts.now) f

tested : (c : After-require) {s : Sums} → c.hour_sums-sums.result ≡ s → c.require.result ≡ unless (totals_bounded c.args.terms.zone s c.args.day) cause.Totals
tested c is = rw (c.totals_bounded-bounded.ensures, is, back c.args.terms.zone (search rules)) at c.require.ensures

pub hour_sums-sums-requires : goal.hour_sums-sums-requires
hour_sums-sums-requires c =
    let a = c.args in
    let (f, is) = past c in
    rw (back c.in_ok-market.market (search rules), ← is) (market_asked a.day a.table.now (inputs_given a.terms a.amounts.now) f c.requires.tabled.few)

pub totals_bounded-bounded-requires : goal.totals_bounded-bounded-requires
totals_bounded-bounded-requires c =
    let a = c.args in
    let d = goal.at.totals_bounded-bounded-requires c in
    let (f, is) = past d.In_ok-market in
    (c.requires.day, rw (summed d.After-hour_sums-sums f is) (hour_small a.day a.table.now (inputs_given a.terms a.amounts.now) f c.requires.tabled.few))

pub returns-in_err-require : goal.returns-in_err-require
returns-in_err-require c =
    let a = c.args in
    let d = goal.at.returns-in_err-require c in
    let (f, is) = past d.In_ok-market in
    let p = err_from_is_err_and c.from_residual-in_err-require.result c.from_residual-in_err-require.ensures.1 in
    rw (fit_inputs a.day a.table.now (inputs_given a.terms a.amounts.now) f, ← tested d.After-require (summed d.After-hour_sums-sums f is), c.in_err-require.was)
    (p.1 ∙ ap Err p.2)

pub returns : goal.returns
returns c =
    let a = c.args in
    let d = goal.at.returns c in
    let (f, is) = past d.In_ok-market in
    rw (fit_inputs a.day a.table.now (inputs_given a.terms a.amounts.now) f, ← tested d.After-require (summed d.After-hour_sums-sums f is), c.in_ok-require.was)
    (ap Ok (back c.in_ok-market.market (search rules) ∙ sym is))

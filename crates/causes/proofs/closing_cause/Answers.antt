-- Cause 25 stands behind the others. Assumes nothing.
use mathlib.Core.Path.{◌∙◌}
use Rattle.causes.proofs.Lengths.{closing_tabled}
use Rattle.causes.proofs.Totals.{closing_past_8}
use borrow.Author.Rules.{rules}
use Rattle.causes.proofs.closing_cause.Goals as goal

pub closing_totals_cause-requires : goal.closing_totals_cause-requires
closing_totals_cause-requires c =
    let a = c.args in
    (search rules, (closing_tabled a.day a.table.now a.outputs.now (search rules) (search rules)).long, search rules)

pub returns : goal.returns
returns c =
    let a = c.args in
    c.closing_totals_cause.ensures
    ∙ closing_past_8 a.day a.table.now a.terms a.outputs.now
    (search rules) (search rules) (search rules) (search rules) (search rules) (search rules) (search rules)

-- Causes 4 to 11 and 25, past the lengths. Assumes nothing.
use mathlib.Core.Path.{◌∙◌}
use Rattle.causes.proofs.Lengths.{listed_by_hour, hour_past_3}
use borrow.Author.Rules.{rules}
use Rattle.causes.proofs.hour_cause.Goals as goal

pub inputs_and_totals_cause-requires : goal.inputs_and_totals_cause-requires
inputs_and_totals_cause-requires c =
    let a = c.args in
    listed_by_hour a.day a.table.now a.amounts.now a.terms a.outputs.now a.scratch.now (search rules) (search rules)

pub returns : goal.returns
returns c =
    let a = c.args in
    c.inputs_and_totals_cause.ensures ∙ hour_past_3 a.day a.table.now a.amounts.now a.terms a.outputs.now a.scratch.now (search rules) (search rules)

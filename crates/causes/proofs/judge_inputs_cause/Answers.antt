-- Causes 4 to 11, which the judge has in common with an hour. Assumes nothing.
use mathlib.Core.Path.{◌∙◌}
use Rattle.causes.proofs.Lengths.{listed_by_judge, judge_past_3}
use borrow.Author.Rules.{rules}
use Rattle.causes.proofs.judge_inputs_cause.Goals as goal

pub inputs_cause-requires : goal.inputs_cause-requires
inputs_cause-requires c =
    let a = c.args in
    listed_by_judge a.day a.table.now a.amounts.now a.terms a.quantity.now (search rules) (search rules)

pub returns : goal.returns
returns c =
    let a = c.args in
    c.inputs_cause.ensures ∙ judge_past_3 a.day a.table.now a.amounts.now a.terms a.quantity.now (search rules) (search rules)

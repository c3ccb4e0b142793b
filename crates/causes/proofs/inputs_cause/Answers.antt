-- What the record and the lengths leave for the causes after them, and causes 9 to 11. Assumes nothing.
use mathlib.Core.Path.{◌∙◌}
use Rattle.integers.proofs.Machine.{back}
use Rattle.causes.proofs.Lengths.{hour_lent, hour_amounts}
use borrow.Author.Rules.{rules}
use Rattle.causes.proofs.inputs_cause.Goals as goal

pub zone_amounts_cause-requires : goal.zone_amounts_cause-requires
zone_amounts_cause-requires c =
    let a = c.args in
    rw (back a.terms.zone (search rules))
    (hour_lent a.day a.table.now a.amounts.now c.requires a.terms (search rules) (search rules))

pub returns : goal.returns
returns c =
    let a = c.args in
    (rw (back a.terms.zone (search rules)) at c.zone_amounts_cause.ensures)
    ∙ hour_amounts a.day a.table.now a.amounts.now c.requires a.terms
    (search rules) (search rules) (search rules) (search rules) (search rules)

pub hour_next-requires : goal.hour_next-requires
hour_next-requires c = c.requires.day

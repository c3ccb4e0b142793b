-- By the cause. Assumes nothing.
use borrow.Author.Rules.{rules}
use Rattle.gas_day.proofs.Openings.{not_opened, opened}
use Rattle.gas_day.proofs.open.Goals as goal

pub returns-in_err-open_cause : goal.returns-in_err-open_cause
returns-in_err-open_cause c = not_opened _ _ _ {k = c.in_err-open_cause.field-0.0} (search rules) (search rules)

pub returns : goal.returns
returns c = opened _ _ _ (search rules) (search rules) (search rules)

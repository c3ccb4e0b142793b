-- The upper default is not negative, so it can be negated. Assumes nothing.
use mathlib.Core.Path.{◌≡◌, ◌∙◌}
use Rattle.integers.proofs.Machine.{back}
use Rattle.rules.specs.Thresholds.{upper_default, lower_default}
use borrow.Author.Rules.{rules}
use Rattle.gas_day.proofs.Openings.{fits_negated, negated, defaults}
use Rattle.gas_day.proofs.default_thresholds.Goals.{After-upper_default-upper}
use Rattle.gas_day.proofs.default_thresholds.Goals as goal

upper : (c : After-upper_default-upper) → c.upper_default-upper.result ≡ upper_default c.args.month c.args.zone
upper c = search rules

pub overflow_sub-lower : goal.overflow_sub-lower
unfolding upper_default
overflow_sub-lower c =
    let u = upper (goal.at.overflow_sub-lower c).After-upper_default-upper in
    let fits = c.upper_default-upper.type_inv in
    rw (back _ fits, u) (fits_negated _ (rw u at fits))

pub returns : goal.returns
unfolding upper_default lower_default
returns c =
    let u = upper (goal.at.returns c).After-upper_default-upper in
    let fits = c.upper_default-upper.type_inv in
    defaults c.args.month c.args.zone (search rules) (back _ fits ∙ u) (negated c.upper_default-upper.result _ u (rw u at fits))

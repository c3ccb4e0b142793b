-- Length and hours are read as they are. Assumes nothing.
use mathlib.Core.Path.{ap, ap₂, ◌∙◌}
use lib.IntN.{ℤ}
use lib.Signed.{le_z}
use Rattle.integers.proofs.Machine.{back}
use Rattle.rules.specs.Days.{hours_done}
use Rattle.rules.specs.Causes.{all_done}
use borrow.Author.Rules.{rules}
use Rattle.day_record.proofs.all_done.Goals as goal

pub returns : goal.returns
unfolding all_done
returns c =
    let n = c.hours_of_day in
    let h = c.hours_done in
    let zone = back c.args.terms.zone (search rules) in
    ap₂ le_z (back n.result n.type_inv ∙ n.ensures) (back h.result h.type_inv ∙ h.ensures ∙ ap (λ (z : ℤ). hours_done z c.args.day) zone)

-- By the answer on the thresholds. Assumes nothing.
use mathlib.Core.Path.{refl, ap, ◌∙◌}
use lib.IntN.{pos}
use Rattle.integers.proofs.Machine.{read}
use Rattle.hour_text.specs.Opened.{terms_of, january_terms, with_defaults}
use Rattle.hour_text.proofs.Opening.{thresholds_refused, thresholds_done, refused_writes}
use Rattle.hour_text.proofs.january_text.Goals as goal

pub returns-in_err-default_thresholds : goal.returns-in_err-default_thresholds
unfolding with_defaults
returns-in_err-default_thresholds c =
    let e = rw (read c.ranges.zone) at c.in_err-default_thresholds.ensures in
    refused_writes c.args.writer.now _ c.from_residual.ensures.1 (rw (thresholds_refused (pos 1) c.args.zone e) refl)

pub returns : goal.returns
unfolding with_defaults january_terms
returns c =
    let p = thresholds_done (pos 1) c.args.zone (rw (read c.ranges.zone) at c.in_ok-default_thresholds.ensures) in
    let q = (rw (read c.ranges.hour, read c.ranges.zone) at c.terms_of-terms.ensures) ∙ ap (terms_of c.args.hour c.args.zone) p.1 in
    rw p.0 (rw q at c.hour_text.ensures)

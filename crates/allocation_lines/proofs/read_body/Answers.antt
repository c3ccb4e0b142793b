-- No line, a faulty first line, or the lines in turn. Assumes nothing.
use mathlib.Core.Path.{sym, ◌∙◌}
use Rattle.std.proofs.lemmas.Result.{err_from_is_err_and}
use Rattle.allocation_lines.proofs.Turns.{body_faulty, body_row}
use Rattle.allocation_lines.proofs.Stores.{after_refused}
use Rattle.allocation_lines.proofs.read_body.Goals as goal

pub returns-in_err-first : goal.returns-in_err-first
returns-in_err-first c =
    let a = c.args in
    let l = c.line_at in
    let p = err_from_is_err_and c.from_residual.result c.from_residual.ensures.1 in
    rw (p.1, p.2)
    (after_refused (body_faulty a.file.now a.at c.if-file-at.false l.result.now l.ensures _ (sym c.read_row.ensures ∙ c.in_err-first.was)))

pub returns : goal.returns
returns c =
    let a = c.args in
    let l = c.line_at in
    rw (body_row a.file.now a.at c.if-file-at.false l.result.now l.ensures c.in_ok-first.first (sym c.read_row.ensures ∙ c.in_ok-first.was)) c.read_lines.ensures

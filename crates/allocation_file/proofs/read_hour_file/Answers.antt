-- Cause 12, cause 13, or what the lines after the header say. Assumes nothing.
use mathlib.Core.Path.{◌≡◌, sym, ◌∙◌}
use mathlib.Core.Bool.{true}
use lib.ListN.{drop}
use Rattle.std.proofs.lemmas.Result.{err_from_is_err_and}
use Rattle.csv_lines.specs.Lines.{lines}
use Rattle.allocation_lines.specs.Turns.{body_of}
use Rattle.allocation_file.proofs.Header.{other_header, right_header}
use Rattle.allocation_file.proofs.Calls.{outcome_of, refusal, lines_refused, lines_read}
use Rattle.allocation_file.proofs.read_hour_file.Goals.{After-begins_with}
use Rattle.allocation_file.proofs.read_hour_file.Goals as goal

pub returns-then-not-begins_with-clause-read : goal.returns-then-not-begins_with-clause-read
returns-then-not-begins_with-clause-read c =
    let l = c.args.lists.now in
    refusal
    (other_header c.args.file.now l.entries.now l.exits.now l.titles.now l.poolings.now
    (sym c.all_128.ensures ∙ c.if-not-all_128.false)
    (sym c.begins_with.ensures ∙ c.if-not-begins_with.true))

-- the lists have the right lengths, and the header is right
begun : (c : After-begins_with) → c.begins_with.result ≡ true → outcome_of c.args.file.now c.args.lists.now ≡ body_of (lines (drop 25 c.args.file.now))
begun c e =
    let l = c.args.lists.now in
    right_header c.args.file.now l.entries.now l.exits.now l.titles.now l.poolings.now
    (sym c.all_128.ensures ∙ c.if-not-all_128.false)
    (sym c.begins_with.ensures ∙ e)

pub returns-in_err-lines : goal.returns-in_err-lines
returns-in_err-lines c =
    let e = begun (goal.at.returns-in_err-lines c).After-begins_with c.if-not-begins_with.false in
    let p = err_from_is_err_and c.from_residual.result c.from_residual.ensures.1 in
    let after = rw c.in_err-lines.was at c.read_body.ensures in
    record { same = after.same; read = rw (p.1, p.2) (lines_refused c.args.file.now _ _ e after) }

pub returns : goal.returns
returns c =
    let e = begun (goal.at.returns c).After-begins_with c.if-not-begins_with.false in
    let after = rw c.in_ok-lines.was at c.read_body.ensures in
    record { same = after.same; read = rw c.from.ensures (lines_read c.args.file.now _ c.in_ok-lines.lines e after) }

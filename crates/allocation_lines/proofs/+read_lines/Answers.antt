-- By a measure that falls with each line: what is left of the file. A row is stored once the lines after it are read. Assumes nothing.
use mathlib.Core.Path.{◌≡◌, sym, ◌∙◌}
use mathlib.Core.Bool.{true}
use Prim.Native.Nat.{ℕ, ◌+◌, ◌<◌}
use lib.ListN.{length, drop}
use Rattle.std.proofs.lemmas.Result.{err_from_is_err_and}
use Rattle.csv_lines.specs.Lines.{lines}
use Rattle.allocation_row.proofs.Follows.{follows_means}
use Rattle.allocation_lines.specs.Turns.{File, with_row, in_turn}
use Rattle.allocation_lines.proofs.Turns.{turn_faulty, turn_other, turn-row}
use Rattle.allocation_lines.proofs.Stores.{after_refused, after-rest, row_fits, after_stored}
use Rattle.allocation_lines.proofs.+read_lines.Goals.{After-follows_on}
use Rattle.allocation_lines.proofs.+read_lines.Goals as goal

-- a line with a row
module _ {t : ℕ} (c : After-follows_on t) where
  -- what the lines after it say
  abbrev after : File
  after =
      let a = c.args in
      in_turn a.first.now.hour a.first.now.zone (lines (drop (a.at + length c.line_at-line.result.now + 2) a.file.now)) (a.place + 1)

  -- the row may stand
  module _ (e : c.follows_on.result ≡ true) where
    turn_here : in_turn c.args.first.now.hour c.args.first.now.zone (lines (drop c.args.at c.args.file.now)) c.args.place ≡ with_row c.in_ok-row.row after
    turn_here =
        let a = c.args in
        let l = c.line_at-line in
        turn-row a.file.now a.at c.if-file-at.false l.result.now l.ensures
        a.first.now.hour a.first.now.zone a.place c.in_ok-row.row (sym c.read_row.ensures ∙ c.in_ok-row.was) (sym c.follows_on.ensures ∙ e)

    below : c.args.place < 128
    below = (follows_means _ _ _ c.in_ok-row.row (sym c.follows_on.ensures ∙ e)).below

pub returns-in_err-row : goal.returns-in_err-row
returns-in_err-row t c =
    let a = c.args in
    let l = c.line_at-line in
    let p = err_from_is_err_and c.from_residual.result c.from_residual.ensures.1 in
    rw (p.1, p.2)
    (after_refused
    (turn_faulty a.file.now a.at c.if-file-at.false l.result.now l.ensures
    a.first.now.hour a.first.now.zone a.place _ (sym c.read_row.ensures ∙ c.in_err-row.was)))

pub returns-then-not-follows_on : goal.returns-then-not-follows_on
returns-then-not-follows_on t c =
    let a = c.args in
    let l = c.line_at-line in
    after_refused
    (turn_other a.file.now a.at c.if-file-at.false l.result.now l.ensures
    a.first.now.hour a.first.now.zone a.place c.in_ok-row.row (sym c.read_row.ensures ∙ c.in_ok-row.was) (sym c.follows_on.ensures ∙ c.if-not-follows_on.true))

-- the lines after it are refused
pub returns-in_err-read : goal.returns-in_err-read
returns-in_err-read t c =
    let d = (goal.at.returns-in_err-read t c).After-follows_on in
    let p = err_from_is_err_and c.from_residual-in_err-read.result c.from_residual-in_err-read.ensures.1 in
    rw (p.1, p.2, turn_here d c.if-not-follows_on.false)
    (after-rest c.args.place c.in_ok-row.row (after d) _ (rw c.in_err-read.was at c.read_lines.ensures))

pub store-requires : goal.store-requires
store-requires t c =
    let d = (goal.at.store-requires t c).After-follows_on in
    row_fits (after d) c.requires.1 (below d c.if-not-follows_on.false) c.read_lines.ensures

pub returns : goal.returns
returns t c =
    let d = (goal.at.returns t c).After-follows_on in
    let may_stand = c.if-not-follows_on.false in
    rw (turn_here d may_stand)
    (after_stored c.args.place c.in_ok-row.row (after d) c.in_ok-read.read c.requires.1 (below d may_stand) (rw c.in_ok-read.was at c.read_lines.ensures) c.store.ensures)

-- By the answer to the opening. Assumes nothing.
use mathlib.Core.Path.{◌≡◌, refl}
use borrow.Author.Rules.{rules}
use lib.IntN.{pos}
use lib.ListN.{length}
use mir.Syntax.{w64}
use mir.Val.{to_z}
use Rattle.integers.proofs.Machine.{read}
use Rattle.hour_text.specs.Opened.{program_length, opened}
use Rattle.hour_text.proofs.Opening.{open_refused, open_done, refused_writes}
use Rattle.hour_text.proofs.day_text.Goals as goal

pub returns-in_err-day : goal.returns-in_err-day
unfolding opened
returns-in_err-day c =
    let n = length c.args.amounts.now.entries.now in
    let users : to_z w64 n ≡ pos n = search rules in
    let k = open_refused (pos n) program_length c.args.table.now (rw users at c.in_err-day.ensures.answer) in
    refused_writes c.args.writer.now _ c.from_residual.ensures.1 (rw k refl)

pub returns : goal.returns
unfolding opened
returns c =
    let n = length c.args.amounts.now.entries.now in
    let users : to_z w64 n ≡ pos n = search rules in
    let p = open_done (pos n) program_length c.args.table.now (rw users at c.in_ok-day.ensures.answer) in
    let t = rw users at c.«open».ensures.table in
    rw p.0 (rw (read c.ranges.hour, read c.ranges.zone, p.1, t) at c.january_text.ensures)

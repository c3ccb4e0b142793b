-- The lists that are lent are zeros. Assumes nothing.
use Rattle.integers.proofs.Machine.{read}
use Rattle.hour_text.proofs.Opening.{text_wrote, line_wrote}
use Rattle.hour_text.proofs.Zeros.{opened_new_lem}
use Rattle.hour_text.proofs.amounts_text.Goals as goal

pub returns-in-Ok : goal.returns-in-Ok
returns-in-Ok c =
    let a = c.args in
    let m = a.amounts.now in
    rw (← opened_new_lem a.hour a.zone m.entries.now m.exits.now m.titles.now m.poolings.now a.n c.requires.users c.requires.entry)
    (text_wrote _ (rw (read c.ranges.hour, read c.ranges.zone) at c.in-Ok.ensures))

pub returns-in-Err : goal.returns-in-Err
returns-in-Err c =
    let a = c.args in
    let m = a.amounts.now in
    let e = rw (read c.ranges.hour, read c.ranges.zone) at c.in-Err.ensures in
    rw (← opened_new_lem a.hour a.zone m.entries.now m.exits.now m.titles.now m.poolings.now a.n c.requires.users c.requires.entry)
    (line_wrote e.0 e.1 (rw c.number.ensures at c.write_refused.ensures))

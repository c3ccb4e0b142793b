-- By the answer to the hour. Assumes nothing.
use mathlib.Core.Path.{refl}
use Rattle.integers.proofs.Machine.{back}
use Rattle.rules.specs.Hours.{Hour, hour_given}
use Rattle.hour_text.proofs.Settling.{hour_refused, hour_done, done_text, done_asks}
use borrow.Author.Rules.{rules}
use Rattle.hour_text.proofs.hour_text.Goals.{After-settle_hour}
use Rattle.hour_text.proofs.hour_text.Goals as goal

abbrev given : After-settle_hour → Hour
given c = let a = c.args in hour_given a.terms a.amounts.now a.outputs.now a.scratch.now

pub returns-in-Err : goal.returns-in-Err
returns-in-Err c =
    let d = (goal.at.returns-in-Err c).After-settle_hour in
    (hour_refused _ _ (given d) c.in-Err.ensures.settled.answer, refl)

pub settled_text-requires : goal.settled_text-requires
settled_text-requires c =
    let d = (goal.at.settled_text-requires c).After-settle_hour in
    let p = c.settle_hour.ensures.settled in
    rw (back c.args.terms.zone (search rules))
    (done_asks _ _ (given d) (hour_done _ _ (given d) c.in-Ok.ensures.settled.answer) _ p.table p.quantity p.money c.requires c.settle_hour.auto.table)

pub returns-in-Ok : goal.returns-in-Ok
returns-in-Ok c =
    let d = (goal.at.returns-in-Ok c).After-settle_hour in
    let p = c.settle_hour.ensures.settled in
    rw (done_text _ _ (given d) (hour_done _ _ (given d) c.in-Ok.ensures.settled.answer) c.settle_hour.new.outputs p.table p.quantity p.money)
    (rw (back c.args.terms.zone (search rules)) at c.settled_text.ensures)

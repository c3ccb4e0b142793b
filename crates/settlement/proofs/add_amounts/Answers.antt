-- Each turn writes a position before. Assumes nothing.
use mathlib.Core.Path.{◌≡◌, sym, ◌∙◌}
use lib.IntN.{pos}
use lib.ListN.{length, get_or}
use Rattle.integers.proofs.Machine.{back}
use Rattle.integers.proofs.Passes.{written_elem, written_next, written_all, read_still}
use Rattle.rules.proofs.Small.{positions_small}
use Rattle.positions.specs.Before.{before_at, befores}
use Rattle.positions.proofs.Before.{length-befores, befores_at}
use borrow.Author.Rules.{rules}
use native.Mathlib.Omega.{arith}
use Rattle.settlement.proofs.add_amounts.Goals.{Start, In-loop-user}
use Rattle.settlement.proofs.add_amounts.Goals as goal

-- as many positions before as places
long : (c : Start) → length (befores c.args.positions.now c.args.amounts.now) ≡ length c.args.positions.now
long c = length-befores c.args.positions.now c.args.amounts.now ∙ sym c.requires.0

-- what the turn reads is as it was
old : (c : In-loop-user) → get_or c.loop-user.positions c.loop-user.user (pos 0) ≡ get_or c.args.positions.now c.loop-user.user (pos 0)
old c = written_elem _ c.args.positions.now _ _ c.loop-user.invariant (length-befores _ _ ∙ sym c.requires.0) (pos 0) (omega arith)

pub before_of_user-requires : goal.before_of_user-requires
before_of_user-requires c =
    let l = c.loop-user in
    let r = c.requires.1 in (
      read_still (positions_small _ r.lent.positions) l.positions l.user (old (goal.at.before_of_user-requires c).In-loop-user),
      omega arith,
      r.lent.lists,
      r.fit,
    )

pub loop-user-preserved : goal.loop-user-preserved
unfolding before_at
loop-user-preserved c =
    let l = c.loop-user in
    let a = c.args in
    let d = goal.at.loop-user-preserved c in
    let v = rw (back (get_or l.positions l.user (pos 0)) (search rules), old d.In-loop-user) at c.before_of_user.ensures in
    written_next _ a.positions.now _ _ l.invariant (long d.Start) (pos 0) _ (omega arith)
    (back _ c.before_of_user.type_inv ∙ v ∙ sym (befores_at a.positions.now a.amounts.now l.user (omega arith)))

pub returns : goal.returns
returns c = written_all _ c.args.positions.now _ _ c.loop-user.invariant (long (goal.at.returns c).Start) (omega arith)

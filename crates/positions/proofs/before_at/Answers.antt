-- The user's place in the part is in range, and is read back from its bits. Assumes nothing.
use mathlib.Core.Path.{sym, ◌∙◌}
use lib.IntN.{pos}
use lib.ListN.{get_or}
use Rattle.integers.proofs.Machine.{back}
use Rattle.integers.proofs.Passes.{read_elem}
use Rattle.rules.proofs.Small.{positions_small}
use Rattle.positions.specs.Before.{before_at}
use Rattle.positions.proofs.Before.{befores_at}
use borrow.Author.Rules.{rules}
use Rattle.positions.proofs.before_at.Goals as goal

pub before_of_user-requires : goal.before_of_user-requires
before_of_user-requires c =
    let r = c.requires.0 in
    (read_elem (positions_small _ r.lent.positions) c.args.user, c.requires.1, r.lent.lists, r.fit)

pub returns : goal.returns
unfolding before_at
returns c =
    let a = c.args in
    back _ c.before_of_user.type_inv ∙ rw (back (get_or a.part.now a.user (pos 0)) (search rules)) at c.before_of_user.ensures
    ∙ sym (befores_at a.part.now a.amounts.now a.user c.requires.1)

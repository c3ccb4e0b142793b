-- The amounts at the user's place are small, and are read back from their bits. Assumes nothing.
use mathlib.Core.Path.{◌∙◌}
use lib.IntN.{pos}
use lib.ListN.{get_or}
use Rattle.integers.proofs.Machine.{read, read_le, back}
use Rattle.integers.proofs.Passes.{read_elem}
use Rattle.rules.specs.Limits.{position_most}
use Rattle.positions.specs.Before.{amounts_at}
use Rattle.positions.proofs.Before.{amounts_small}
use borrow.Author.Rules.{rules}
use Rattle.positions.proofs.before_of_user.Goals as goal

pub before_of-requires : goal.before_of-requires
before_of-requires c =
    let s = amounts_small _ c.requires.3 in
    let u = c.args.user in
    (read_le c.args.position position_most c.requires.0, read_elem s.entry u, read_elem s.exit u, read_elem s.title u, read_elem s.pooling u)

pub returns : goal.returns
unfolding amounts_at
returns c =
    let a = c.args.amounts.now in
    let u = c.args.user in
    back _ c.before_of.type_inv
    ∙ (rw (
      read c.ranges.position,
      back (get_or a.entries.now u (pos 0)) (search rules),
      back (get_or a.exits.now u (pos 0)) (search rules),
      back (get_or a.titles.now u (pos 0)) (search rules),
      back (get_or a.poolings.now u (pos 0)) (search rules),
    ) at c.before_of.ensures)

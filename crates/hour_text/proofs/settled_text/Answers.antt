-- The positions after are a part of the table, and those before are their sums with the quantities. Assumes nothing.
use native.Mathlib.Omega.{arith}
use mathlib.Core.Path.{◌≡◌}
use Prim.Native.Nat.{◌+◌, ◌-◌, ◌≤◌}
use lib.ListN.{length, take, drop}
use Rattle.integers.proofs.Machine.{read}
use Rattle.rules.specs.Days.{first_place}
use Rattle.hour_text.specs.Lent.{afters}
use Rattle.hour_text.proofs.Settling.{first_few, after_is, adds_of, settled_wrote}
use Rattle.hour_text.proofs.settled_text.Goals.{After-first_place-start}
use Rattle.hour_text.proofs.settled_text.Goals as goal

-- once the first place is known: the users' places of the table
module _ (c : After-first_place-start) where
  start : c.first_place-start.result ≡ first_place c.args.zone
  start = rw (read c.ranges.zone) at c.first_place-start.ensures

  below : c.first_place-start.result ≤ 128
  below = omega (arith, start, first_few c.args.zone)

  is-after : let a = c.args in
      let p = c.first_place-start.result in
      take (p + length a.outputs.now.quantity.now - p) (drop p a.table.now) ≡ afters a.zone (length a.outputs.now.quantity.now) a.table.now
  is-after = let a = c.args in after_is a.zone a.table.now _ (length a.outputs.now.quantity.now) start c.requires.users

pub overflow_add-end : goal.overflow_add-end
overflow_add-end c = omega (arith, below (goal.at.overflow_add-end c).After-first_place-start, c.requires.users)

pub offset_bounds-table-start : goal.offset_bounds-table-start
offset_bounds-table-start c = omega (arith, below (goal.at.offset_bounds-table-start c).After-first_place-start, c.requires.users)

pub slice_bounds-after-end : goal.slice_bounds-after-end
slice_bounds-after-end c =
    omega (arith, below (goal.at.slice_bounds-after-end c).After-first_place-start, c.requires.users, c.requires.places)

pub add_quantities-requires : goal.add_quantities-requires
add_quantities-requires c = adds_of c.requires (is-after (goal.at.add_quantities-requires c).After-first_place-start)

pub returns : goal.returns
returns c =
    let a = c.args in
    settled_wrote a.zone a.table.now a.outputs.now.quantity.now a.outputs.now.money.now _ _ (is-after (goal.at.returns c).After-first_place-start)
    c.add_quantities.ensures c.write_hour.ensures

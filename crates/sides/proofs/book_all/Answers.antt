-- The pass of proofs/Booking.antt. Assumes nothing.
use mathlib.Core.Path.{◌≡◌, ap, ap₂, ◌∙◌}
use Prim.Native.Nat.{◌≤◌, ◌<◌}
use native.Mathlib.Nat.{lt_of_le_of_lt}
use lib.IntN.{ℤ, pos, nat_abs, ◌-ℤ◌, ◌*ℤ◌}
use lib.ListN.{length, get_or}
use mir.Syntax.{w64}
use mir.Val.{to_z, of_z}
use Rattle.integers.proofs.Passes.{read_still}
use Rattle.integers.proofs.Machine.{read, back, read_le, fits, fits_sub}
use Rattle.integers.proofs.Sizes.{size-mul-le}
use Rattle.rules.specs.Limits.{position_most, price_most}
use Rattle.sides.specs.Sides.{turn}
use Rattle.sides.proofs.Turning.{size-turn}
use Rattle.sides.proofs.Booking.{position_still, size_still, booking_next, booking_all}
use borrow.Author.Rules.{rules}
use native.Mathlib.Omega.{arith}
use Rattle.sides.proofs.book_all.Goals.{After-turned-sold}
use Rattle.sides.proofs.book_all.Goals as goal

-- of a turn: its place; the quantity; its size
module _ (c : After-turned-sold) where
  room : c.loop-i.i < length c.args.positions.now
  room = omega (arith, c.loop-i.invariant.positions.long)

  value : to_z w64 (of_z w64 c.turned-sold.result) ≡ turn c.args.up (get_or c.args.quantity.now c.loop-i.i (pos 0))
  value =
      let q = size_still c.loop-i.invariant c.requires.0 c.requires.1 room in
      back _ c.turned-sold.type_inv ∙ rw (back (get_or c.loop-i.quantity c.loop-i.i (pos 0)) (search rules), q) at c.turned-sold.ensures

  size : nat_abs (to_z w64 (of_z w64 c.turned-sold.result)) ≤ position_most
  size = rw value (omega (arith, size-turn c.args.up (get_or c.args.quantity.now c.loop-i.i (pos 0)), c.requires.4.at c.loop-i.i))

-- ---- the goals
pub overflow_mul-money : goal.overflow_mul-money
overflow_mul-money c =
    let q = to_z w64 (of_z w64 c.turned-sold.result) in
    let p = to_z w64 (of_z w64 c.args.price) in
    let k = size-mul-le q p position_most price_most (size c) (read_le c.args.price price_most c.requires.2) in
    fits (q *ℤ p) (lt_of_le_of_lt k (omega arith))

pub overflow_sub-position : goal.overflow_sub-position
overflow_sub-position c =
    let d = (goal.at.overflow_sub-position c).After-turned-sold in
    let l = c.loop-i in
    omega (arith, fits_sub, size d, read_still c.requires.3 l.positions l.i (position_still l.invariant c.requires.0 c.requires.1 (room d)))

pub loop-i-preserved : goal.loop-i-preserved
loop-i-preserved c =
    let d = (goal.at.loop-i-preserved c).After-turned-sold in
    let l = c.loop-i in
    let p = position_still l.invariant c.requires.0 c.requires.1 (room d) in
    booking_next l.invariant c.requires.0 c.requires.1 (room d) _ _ _
    (read (overflow_sub-position c) ∙ ap₂ (λ (x y : ℤ). x -ℤ y) (back (get_or l.positions l.i (pos 0)) (search rules) ∙ p) (value d))
    (value d)
    (read (overflow_mul-money d) ∙ ap (λ (q : ℤ). q *ℤ to_z w64 (of_z w64 c.args.price)) (value d))

pub returns : goal.returns
returns c =
    rw (read c.ranges.price) at (booking_all c.loop-i.invariant c.requires.0 c.requires.1 (omega (arith, c.loop-i.invariant.positions.long)))

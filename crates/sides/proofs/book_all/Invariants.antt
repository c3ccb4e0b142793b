-- The pass of proofs/Booking.antt. Assumes nothing.
use Rattle.sides.proofs.Booking.{Booking}
use Rattle.sides.proofs.book_all.Given as goal

abbrev pub invariant-loop-i : goal.invariant-loop-i
invariant-loop-i l =
    Booking l.up l.price l.initial.positions l.initial.quantity l.initial.money l.positions l.quantity l.money l.i

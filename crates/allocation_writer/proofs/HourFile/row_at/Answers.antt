-- Each number is read at its place; the hour and the zone fit. Assumes nothing.
use mathlib.Core.Path.{◌≡◌, ap}
use Prim.Native.Nat.{ℕ, ◌^◌, ◌<◌}
use native.Mathlib.Omega.{arith}
use borrow.Author.Rules.{rules}
use lib.Dec.{T}
use lib.IntN.{ℤ, pos, nat_abs}
use lib.ListN.{get_or}
use lib.Signed.{non_neg}
use mir.Syntax.{w32}
use mir.Val.{Fits}
use Rattle.integers.proofs.Machine.{back}
use Rattle.allocation_writer.specs.Writer.{row_at}
use Rattle.allocation_writer.proofs.HourFile.row_at.Goals as goal

-- a natural number that is small fits
cast : {x y : ℤ} {n : ℕ} → y ≡ x → pos n ≡ x → n < 2 ^ 32 → T (non_neg y) × Fits w32 (nat_abs y)
cast r e h = rw (r, ← e) (tt, record { fits = h })

pub overflow_cast-result : goal.overflow_cast-result
overflow_cast-result c =
    let f = c.requires.0.1 in
    cast (back c.args.self.now.hour (search rules)) f.hour (omega (arith, f.short, ap nat_abs f.hour))

pub overflow_cast-result-2 : goal.overflow_cast-result-2
overflow_cast-result-2 c =
    let k = c.requires.0.0 in
    cast (back c.args.self.now.zone (search rules)) k.zone (omega (arith, k.zones))

pub returns : goal.returns
unfolding row_at
returns c =
    let s = c.args.self.now in
    let a = s.amounts.now in
    let p = c.args.place in
    rw (
      back s.hour (search rules),
      back s.zone (search rules),
      back (get_or a.entries.now p (pos 0)) (search rules),
      back (get_or a.exits.now p (pos 0)) (search rules),
      back (get_or a.titles.now p (pos 0)) (search rules),
      back (get_or a.poolings.now p (pos 0)) (search rules),
      ap nat_abs c.requires.0.1.hour,
      ap nat_abs c.requires.0.0.zone,
    )

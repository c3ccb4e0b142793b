-- The theorem of specs/Guarantees.antt, and that a record with an odd mark does not fit. Assumes nothing.
use mathlib.Core.Path.{◌≡◌, refl, sym, ap}
use mathlib.Core.Bool.{Bool, true, false, not}
use Prim.Native.Nat.{zero, suc}
use native.Mathlib.Omega.{arith}
use borrow.Author.Tests.{leb-true}
use lib.Dec.{leb}
use lib.IntN.{ℤ, pos, negsuc}
use Rattle.integers.specs.Ranges.{in_range, is_zero}
use Rattle.integers.specs.Lists.{bit}
use Rattle.integers.proofs.Linear.{not_both}
use Rattle.integers.proofs.Tests.{and_true}
use Rattle.rules.specs.declared.Day.{Day}
use Rattle.rules.specs.declared.ZoneDay.{ZoneDay}
use Rattle.rules.specs.Limits.{users_fit}
use Rattle.rules.specs.Causes.{day_fit}
use Rattle.record_c.specs.declared.DayC.{DayC}
use Rattle.record_c.specs.declared.ZoneDayC.{ZoneDayC}
use Rattle.record_c.specs.Records.{zone_for_c, day_for_c, mark_fits, marks_fit, users_of, zone_of, day_of}
use Rattle.record_c.specs.Guarantees.{RecordKept}

-- ---- a record that comes back

mark_kept : (b : Bool) → not (is_zero (pos (bit b))) ≡ b
mark_kept true = refl
mark_kept false = refl

zone-fits : (z : ZoneDay) → mark_fits (zone_for_c z) ≡ true
unfolding mark_fits zone_for_c
zone-fits z = go z.closed
  where
    go : (b : Bool) → mark_fits (record { hours = z.hours; closed = pos (bit b); sold = z.sold; bought = z.bought }) ≡ true
    go true = refl
    go false = refl

zone_kept : (z : ZoneDay) → zone_of (zone_for_c z) ≡ z
unfolding zone_of zone_for_c
zone_kept z = ap (λ (b : Bool). record { hours = z.hours; closed = b; sold = z.sold; bought = z.bought }) (mark_kept z.closed)

day_kept : (d : Day) → day_of (day_for_c d) ≡ d
unfolding day_of day_for_c users_of marks_fit
day_kept d = rw (zone-fits d.h, zone-fits d.l, zone_kept d.h, zone_kept d.l)

mark_given : (x : ℤ) → in_range (pos 0) (pos 1) x ≡ true → pos (bit (not (is_zero x))) ≡ x
mark_given (pos zero) e = refl
mark_given (pos (suc zero)) e = refl
mark_given (pos (suc (suc n))) e = absurd (omega (arith, leb-true (suc (suc n)) 1 (and_true (leb 0 (suc (suc n))) _ e).1))
mark_given (negsuc n) e = not_both (sym e)

zone-given : (z : ZoneDayC) → mark_fits z ≡ true → zone_for_c (zone_of z) ≡ z
unfolding zone_of zone_for_c mark_fits
zone-given z e = ap (λ (x : ℤ). record { hours = z.hours; closed = x; sold = z.sold; bought = z.bought }) (mark_given z.closed e)

day_given : (d : DayC) → marks_fit d ≡ true → day_for_c (day_of d) ≡ d
unfolding day_of day_for_c users_of marks_fit
day_given d e =
    let both = and_true (mark_fits d.h) (mark_fits d.l) e in
    rw (both.0, both.1, zone-given d.h both.0, zone-given d.l both.1)

pub record_kept : RecordKept
record_kept = (day_kept, day_given)

-- ---- a mark that is neither 0 nor 1

pub no_users : (d : DayC) → marks_fit d ≡ false → day_fit (day_of d) ≡ false
unfolding day_fit day_of users_of users_fit
no_users d e = rw e refl

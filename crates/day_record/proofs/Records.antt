-- A zone's part of the record, and what a record that fits says of its numbers. Assumes nothing.
use mathlib.Core.Path.{◌≡◌, refl, ap, ap₂, ◌∙◌}
use mathlib.Core.Bool.{Bool, true, false, cond, ◌&&◌}
use Prim.Native.Nat.{zero-le, ◌+◌, ◌^◌, ◌≤◌, ◌<◌}
use lib.IntN.{ℤ, pos, nat_abs, ◌+ℤ◌}
use mir.Syntax.{w64}
use mir.Val.{SFits, to_z, of_z}
use Rattle.integers.specs.Ranges.{in_range, is_zero}
use Rattle.integers.proofs.Machine.{read, fits-add}
use Rattle.integers.proofs.Tests.{and_true, range_size}
use Rattle.rules.specs.declared.Day.{Day}
use Rattle.rules.specs.declared.ZoneDay.{ZoneDay}
use Rattle.rules.specs.Limits.{length_most, users_fit, length_fit, total_fit}
use Rattle.rules.specs.Days.{hours_of_day, zone_day, hours_done, total_sold, total_bought, with_zone_day}
use Rattle.rules.specs.Causes.{zone_day_fit, totals_fit, day_fit}
use Rattle.rules.proofs.Zones.{of_both}
use Rattle.rules.proofs.Small.{length_small, total_small}
use Rattle.day_record.specs.Small.{PartSmall}

-- ---- two numbers added by the machine, where their sum fits
pub added : (x y : ℤ) → SFits w64 x → SFits w64 y → nat_abs x + nat_abs y < 2 ^ 63 → to_z w64 (of_z w64 (to_z w64 (of_z w64 x) +ℤ to_z w64 (of_z w64 y))) ≡ x +ℤ y
added x y f g h = ap (λ z. to_z w64 (of_z w64 z)) (ap₂ ◌+ℤ◌ (read f) (read g)) ∙ read (fits-add x y h)

-- ---- the record with its zone's part changed is the record with another part
abbrev with_h : Day → ZoneDay → Day
with_h d z = record { users = d.users; length = d.length; h = z; l = d.l }

abbrev with_l : Day → ZoneDay → Day
with_l d z = record { users = d.users; length = d.length; h = d.h; l = z }

pub with_part_of : (zone : ℤ) (f : ZoneDay → ZoneDay) (d : Day) → with_zone_day zone (λ z. f (zone_day zone d)) d ≡ with_zone_day zone f d
unfolding with_zone_day zone_day
with_part_of zone f d = go (is_zero zone)
  where
    go : (b : Bool) → cond b (with_h d (f (cond b d.h d.l))) (with_l d (f (cond b d.h d.l))) ≡ cond b (with_h d (f d.h)) (with_l d (f d.l))
    go true = refl
    go false = refl

-- ---- the numbers of either zone's part are small, so that they may be added to
zone_small : (zone : ℤ) (d : Day) → length_fit (hours_of_day d) ≡ true → zone_day_fit zone d ≡ true → totals_fit zone d ≡ true → PartSmall (zone_day zone d)
unfolding zone_day_fit totals_fit hours_done total_sold total_bought
zone_small zone d long hours totals =
    let both = and_true (total_fit (zone_day zone d).sold) _ (and_true _ _ totals).1 in
    record {
      hours =
          range_size length_most (pos 0) (hours_of_day d) (hours_done zone d) zero-le (length_small (hours_of_day d) long)
          (and_true (in_range (pos 0) (hours_of_day d) (hours_done zone d)) _ hours).0;
      sold = total_small _ both.0;
      bought = total_small _ both.1;
    }

pub part_small : (zone : ℤ) (d : Day) → day_fit d ≡ true → PartSmall (zone_day zone d)
unfolding day_fit zone_day
part_small zone d e =
    let rest = and_true (length_fit (hours_of_day d)) _ (and_true (users_fit d.users) _ e).1 in
    let all = and_true (zone_day_fit (pos 0) d && zone_day_fit (pos 1) d) _ rest.1 in
    let hours = and_true (zone_day_fit (pos 0) d) (zone_day_fit (pos 1) d) all.0 in
    let totals = and_true (totals_fit (pos 0) d) (totals_fit (pos 1) d) all.1 in
    of_both PartSmall (is_zero zone) (zone_small (pos 0) d rest.0 hours.0 totals.0) (zone_small (pos 1) d rest.0 hours.1 totals.1)

pub hours_few : (zone : ℤ) (d : Day) → day_fit d ≡ true → nat_abs (hours_done zone d) ≤ length_most
unfolding hours_done
hours_few zone d e = (part_small zone d e).hours

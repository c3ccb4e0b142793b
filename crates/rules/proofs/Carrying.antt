-- What a call leaves of a zone's part of the record, and the totals along a list of calls. Assumes nothing.
use mathlib.Core.Path.{◌≡◌, refl, sym, ap, ◌∙◌, subst}
use mathlib.Core.Bool.{Bool, true, false, cond, ◌&&◌}
use mathlib.Core.Logic.{◌⊎◌, inl, inr}
use mathlib.Core.List.{List, [], ◌∷◌, ◌++◌}
use lib.IntN.{ℤ, ◌+ℤ◌, +ℤ_idr, +ℤ_assoc}
use Rattle.std.specs.Prelude.{Ok, Err}
use Rattle.integers.specs.Ranges.{equal}
use Rattle.integers.specs.Lists.{sum_ℤ}
use Rattle.rules.specs.declared.Cause.{Cause}
use Rattle.rules.specs.declared.Day.{Day}
use Rattle.rules.specs.declared.ZoneDay.{ZoneDay}
use Rattle.rules.specs.Days.{zone_day, hour_more, closed_now, day_after_hour, day_after_closing}
use Rattle.rules.specs.Hours.{Hour, Closing, before, standing}
use Rattle.rules.specs.Market.{quantities, sold, bought, hour_imbalance, hour_sums, closing_sums}
use Rattle.rules.specs.Causes.{hour_cause, closing_cause}
use Rattle.rules.specs.Answers.{hour_answer, hour_quantity, hour_day, closing_answer, closing_quantity, closing_day}
use Rattle.rules.specs.History.{Call, hour, closing, State, step, run, answered, all_answered}
use Rattle.rules.proofs.Refusing.{cause_of, by_none, by_some}
use Rattle.rules.proofs.Zones.{Zone, zone_day_with}
use Rattle.rules.proofs.Totals.{sold-append, bought-append}
use Rattle.rules.proofs.Accepted.{hour_sound, closing_sound}
use Rattle.rules.proofs.Conserving.{hour_accepted_lem, closing_accepted_lem, hour_day_lem, closing_day_lem}

-- ---- a zone's part of the record after an accepted call: changed if the call is the zone's
module _ (y : ℤ) (zoned : Zone y) (d : Day) (t : List ℤ) where
  pub hour_zone_day : (g : Hour) → hour_cause d t g ≡ Ok tt
      → zone_day y (hour_day (hour_answer d t g)) ≡ cond (equal g.terms.zone y) (hour_more (hour_sums d t g) (zone_day y d)) (zone_day y d)
  unfolding day_after_hour
  hour_zone_day g k =
      ap (zone_day y) (hour_day_lem d t g ∙ by_none _ _ _ k) ∙ zone_day_with y g.terms.zone _ d zoned (hour_sound d t g k).zoned

  pub closing_zone_day : (g : Closing) → closing_cause d t g ≡ Ok tt
      → zone_day y (closing_day (closing_answer d t g)) ≡ cond (equal g.terms.zone y) (closed_now (closing_sums d t g) (zone_day y d)) (zone_day y d)
  unfolding day_after_closing
  closing_zone_day g k =
      ap (zone_day y) (closing_day_lem d t g ∙ by_none _ _ _ k) ∙ zone_day_with y g.terms.zone _ d zoned (closing_sound d t g k).zoned

-- ---- what the quantities qs add to a zone's totals
pub record Added (qs : List ℤ) (z z' : ZoneDay) : Type 0 where
  pub sold : z'.sold ≡ z.sold +ℤ sold qs
  pub bought : z'.bought ≡ z.bought +ℤ bought qs

added_none : (z : ZoneDay) → Added [] z z
unfolding sold bought sum_ℤ
added_none z = record { sold = sym (+ℤ_idr z.sold); bought = sym (+ℤ_idr z.bought) }

added_both : {xs ys : List ℤ} {z z' z'' : ZoneDay} → Added xs z z' → Added ys z' z'' → Added (xs ++ ys) z z''
added_both {xs} {ys} {z} a b = record {
  sold = b.sold ∙ rw (a.sold, sold-append xs ys) (+ℤ_assoc z.sold (sold xs) (sold ys));
  bought = b.bought ∙ rw (a.bought, bought-append xs ys) (+ℤ_assoc z.bought (bought xs) (bought ys));
}

module _ (zone : ℤ) (zoned : Zone zone) where
  hour_added : (d : Day) (t : List ℤ) (g : Hour) → hour_cause d t g ≡ Ok tt
      → Added (cond (equal g.terms.zone zone) (hour_quantity d t g) []) (zone_day zone d) (zone_day zone (hour_day (hour_answer d t g)))
  unfolding hour_quantity hour_more hour_sums
  hour_added d t g k = rw (hour_zone_day zone zoned d t g k, by_none _ _ _ k) (go (equal g.terms.zone zone))
    where
      go : (b : Bool) → Added (cond b (quantities (hour_imbalance d t g) (before d t g)) []) (zone_day zone d) (cond b (hour_more (hour_sums d t g) (zone_day zone d)) (zone_day zone d))
      go true = record { sold = refl; bought = refl }
      go false = added_none (zone_day zone d)

  closing_added : (d : Day) (t : List ℤ) (g : Closing) → closing_cause d t g ≡ Ok tt
      → Added (cond (equal g.terms.zone zone) (closing_quantity d t g) []) (zone_day zone d) (zone_day zone (closing_day (closing_answer d t g)))
  unfolding closing_quantity closed_now closing_sums
  closing_added d t g k = rw (closing_zone_day zone zoned d t g k, by_none _ _ _ k) (go (equal g.terms.zone zone))
    where
      go : (b : Bool) → Added (cond b (standing d t g) []) (zone_day zone d) (cond b (closed_now (closing_sums d t g) (zone_day zone d)) (zone_day zone d))
      go true = record { sold = refl; bought = refl }
      go false = added_none (zone_day zone d)

  -- ---- a call, and a list of calls
  added_step : (s : State) (c : Call) → Added (answered zone s c) (zone_day zone s.day) (zone_day zone (step s c).day)
  unfolding answered step
  added_step s (hour g) = go (cause_of (hour_cause s.day s.table g))
    where
      -- by whether it is accepted
      told : Bool → Type 0
      told b = Added (cond (b && equal g.terms.zone zone) (hour_quantity s.day s.table g) []) (zone_day zone s.day) (zone_day zone (hour_day (hour_answer s.day s.table g)))

      go : (hour_cause s.day s.table g ≡ Ok tt) ⊎ ((k : Cause) × (hour_cause s.day s.table g ≡ Err k))
          → Added (answered zone s (hour g)) (zone_day zone s.day) (zone_day zone (hour_day (hour_answer s.day s.table g)))
      go (inl k) = subst told (sym (hour_accepted_lem s g k)) (hour_added s.day s.table g k)
      go (inr k) =
          subst told (sym (hour_accepted_lem s g k.1)) (rw (hour_day_lem s.day s.table g, by_some (hour_cause s.day s.table g) _ _ k.1) (added_none (zone_day zone s.day)))
  added_step s (closing g) = go (cause_of (closing_cause s.day s.table g))
    where
      go : (closing_cause s.day s.table g ≡ Ok tt) ⊎ ((k : Cause) × (closing_cause s.day s.table g ≡ Err k))
          → Added (answered zone s (closing g)) (zone_day zone s.day) (zone_day zone (closing_day (closing_answer s.day s.table g)))
      go (inl k) = rw (closing_accepted_lem s g k) (closing_added s.day s.table g k)
      go (inr k) = rw (closing_accepted_lem s g k.1, closing_day_lem s.day s.table g, by_some (closing_cause s.day s.table g) _ _ k.1) (added_none (zone_day zone s.day))

  pub added_run : (s : State) (cs : List Call) → Added (all_answered zone s cs) (zone_day zone s.day) (zone_day zone (run s cs).day)
  unfolding all_answered run
  added_run s [] = added_none (zone_day zone s.day)
  added_run s (c ∷ cs) = added_both (added_step s c) (added_run (step s c) cs)

-- The two zones: their parts of the table, and their parts of the record. Assumes nothing.
use mathlib.Core.Path.{◌≡◌, refl, sym, ap, ◌∙◌}
use mathlib.Core.Bool.{Bool, true, false, cond, ◌&&◌, ◌||◌, or-true, or-false}
use mathlib.Core.List.{List, ◌++◌}
use Prim.Native.Nat.{ℕ, zero, suc, ◌≤◌, ◌<◌}
use native.Mathlib.Omega.{arith}
use borrow.Author.Tests.{leb-true}
use lib.Dec.{leb}
use lib.IntN.{ℤ, pos, negsuc}
use lib.ListN.{length, get_or, take, drop, length-append, length-take, length-drop, get_or-append, take-append-drop}
use lib.Seq.{take_all, take_at, drop_at, drop-drop, length-take-le}
use Rattle.integers.specs.Ranges.{equal, is_zero}
use Rattle.integers.specs.Lists.{every}
use Rattle.integers.proofs.Passes.{every_append}
use Rattle.rules.specs.Causes.{positions_fit}
use Rattle.integers.proofs.Linear.{not_both}
use Rattle.integers.proofs.Tests.{and_true}
use Rattle.rules.specs.declared.Day.{Day}
use Rattle.rules.specs.declared.Sums.{Sums}
use Rattle.rules.specs.declared.ZoneDay.{ZoneDay}
use Rattle.rules.specs.Limits.{zone_fit, position_fit}
use Rattle.rules.specs.Days.{zone_day, is_closed, with_zone_day, hour_more, closed_now, day_after_hour, day_after_closing, first_place, part, with_part, onto}

pub data Zone : ℤ → Type 0 where
  H : Zone (pos 0)
  L : Zone (pos 1)

pub zone_of_lem : (z : ℤ) → zone_fit z ≡ true → Zone z
unfolding zone_fit
zone_of_lem (pos zero) e = H
zone_of_lem (pos (suc zero)) e = L
zone_of_lem (pos (suc (suc n))) e = absurd (omega (arith, leb-true (suc (suc n)) 1 (and_true (leb 0 (suc (suc n))) _ e).1))
zone_of_lem (negsuc n) e = not_both (sym e)

-- ---- the table

-- a zone's part, by the test of the zone, and the table with the part changed
module _ (zone : ℤ) (t : List ℤ) where
  pub part_h : is_zero zone ≡ true → part zone t ≡ take 128 t
  unfolding part first_place
  part_h e = rw e

  pub part_l : is_zero zone ≡ false → part zone t ≡ take 128 (drop 128 t)
  unfolding part first_place
  part_l e = rw e

  pub with_h : (f : List ℤ → List ℤ) → is_zero zone ≡ true → with_part zone f t ≡ f (take 128 t) ++ drop 128 t
  unfolding with_part part first_place
  with_h f e = rw e

  pub with_l : (f : List ℤ → List ℤ) → is_zero zone ≡ false → with_part zone f t ≡ take 128 t ++ (f (take 128 (drop 128 t)) ++ drop 128 (drop 128 t))
  unfolding with_part part first_place
  with_l f e = rw (e, drop-drop 128 128 t)

module _ (t : List ℤ) (long : length t ≡ 256) where
  pub length_part : {z : ℤ} → Zone z → length (part z t) ≡ 128
  unfolding part first_place
  length_part H = simp length-take (omega arith)
  length_part L = simp (length-take, length-drop) (omega arith)

  module _ (f : List ℤ → List ℤ) where
    -- a changed part is what it was changed to
    pub part_changed : {z : ℤ} → Zone z → length (f (part z t)) ≡ 128 → part z (with_part z f t) ≡ f (part z t)
    unfolding with_part part first_place
    part_changed H l = take_at (f (take 128 t)) (drop 128 t) 128 l
    part_changed L l =
        ap (take 128) (drop_at (take 128 t) (f (take 128 (drop 128 t)) ++ drop 256 t) 128 (length-take-le 128 t (omega arith)))
        ∙ take_at (f (take 128 (drop 128 t))) (drop 256 t) 128 l

    -- and the other part is untouched
    pub part_other : {z y : ℤ} → Zone z → Zone y → (z ≡ y → ⊥) → length (f (part z t)) ≡ 128 → part y (with_part z f t) ≡ part y t
    unfolding with_part part first_place
    part_other H H n l = absurd (n refl)
    part_other H L n l = ap (take 128) (drop_at (f (take 128 t)) (drop 128 t) 128 l)
    part_other L H n l = take_at (take 128 t) (f (take 128 (drop 128 t)) ++ drop 256 t) 128 (length-take-le 128 t (omega arith))
    part_other L L n l = absurd (n refl)

    -- and the table is as long as it was
    pub length_with : {z : ℤ} → Zone z → length (f (part z t)) ≡ 128 → length (with_part z f t) ≡ 256
    unfolding with_part part first_place
    length_with H l = simp (length-append, length-drop) (omega (arith, l))
    length_with L l = simp (length-append, length-take, length-drop) (omega (arith, l))

-- a test of every place is that of every place of both parts
pub parts_fit : (t : List ℤ) → length t ≡ 256 → positions_fit t ≡ (every position_fit (part (pos 0) t) && every position_fit (part (pos 1) t))
unfolding positions_fit part first_place
parts_fit t long =
    rw (take_all 128 (drop 128 t) (simp length-drop (omega arith)))
    (ap (every position_fit) (sym (take-append-drop 128 t)) ∙ every_append position_fit (take 128 t) (drop 128 t))

-- a part with its first places replaced
pub length-onto : (xs p : List ℤ) → length xs ≤ length p → length (onto xs p) ≡ length p
unfolding onto
length-onto xs p h = simp (length-append, length-drop) (omega arith)

pub get_or-onto : (xs p : List ℤ) (i : ℕ) → i < length xs → get_or (onto xs p) i (pos 0) ≡ get_or xs i (pos 0)
unfolding onto
get_or-onto xs p i h = get_or-append xs (drop (length xs) p) (pos 0) i h

-- ---- the record

-- what holds of both holds of the one that is chosen
pub of_both : {A : Type 0} (P : A → Type 0) (b : Bool) {x y : A} → P x → P y → P (cond b x y)
of_both P true h l = h
of_both P false h l = l

-- what a call leaves of the record besides the zones' parts: the user count and the length stay
pub record Keeps (e d : Day) : Type 0 where
  pub users : e.users ≡ d.users
  pub length : e.length ≡ d.length

pub zone_keeps : (z : ℤ) (f : ZoneDay → ZoneDay) (d : Day) → Keeps (with_zone_day z f d) d
unfolding with_zone_day
zone_keeps z f d = of_both (λ (e : Day). Keeps e d) (is_zero z) (record { users = refl; length = refl }) (record { users = refl; length = refl })

-- the zone's part is changed, and the other is as it was
pub zone_day_with : (y z : ℤ) (f : ZoneDay → ZoneDay) (d : Day) → Zone y → Zone z
    → zone_day y (with_zone_day z f d) ≡ cond (equal z y) (f (zone_day y d)) (zone_day y d)
unfolding with_zone_day zone_day
zone_day_with y z f d H H = refl
zone_day_with y z f d H L = refl
zone_day_with y z f d L H = refl
zone_day_with y z f d L L = refl

-- an hour leaves the marks of both zones, and a closing marks its zone
pub closed_hour : (y z : ℤ) (s : Sums) (d : Day) → Zone y → Zone z → is_closed y (day_after_hour z s d) ≡ is_closed y d
unfolding day_after_hour hour_more with_zone_day is_closed zone_day
closed_hour y z s d H H = refl
closed_hour y z s d H L = refl
closed_hour y z s d L H = refl
closed_hour y z s d L L = refl

pub closed_closing : (y z : ℤ) (s : Sums) (d : Day) → Zone y → Zone z → is_closed y (day_after_closing z s d) ≡ (is_closed y d || equal z y)
unfolding day_after_closing closed_now with_zone_day is_closed zone_day
closed_closing y z s d H H = sym (or-true d.h.closed)
closed_closing y z s d H L = sym (or-false d.h.closed)
closed_closing y z s d L H = sym (or-false d.l.closed)
closed_closing y z s d L L = sym (or-true d.l.closed)

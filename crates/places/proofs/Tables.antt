-- Cause 7 by its live places: the same test, with each place looked at once; and zeros found by `or`. Assumes nothing.
use mathlib.Core.Path.{◌≡◌, refl, sym, ap₂, ◌∙◌}
use mathlib.Core.Bool.{Bool, true, false, not, cond, ◌&&◌, ◌||◌, and-true, and-false, and_self}
use mathlib.Core.List.{List, [], ◌∷◌}
use Prim.Native.Nat.{ℕ, zero, suc, zero-le, ◌+◌, ◌-◌, ◌≤◌, ◌<◌}
use native.Mathlib.Omega.{arith}
use native.Mathlib.Nat.{le_refl}
use borrow.Author.Tests.{eqb-true, eqb-false, eq-eqb, ne_eqb}
use lib.Bits.{bit_or, or_add_and, and_le_l, and_le_r}
use lib.Dec.{eqb}
use lib.IntN.{ℤ, pos, negsuc}
use lib.ListN.{length, get_or, take, drop, length-drop}
use lib.Seq.{take_all}
use mir.Syntax.{w64}
use mir.Val.{SFits, of_z}
use Rattle.integers.specs.Ranges.{is_zero}
use Rattle.integers.specs.Lists.{every}
use Rattle.integers.proofs.Machine.{zero_bits}
use Rattle.integers.proofs.Passes.{every-step}
use Rattle.rules.specs.declared.Day.{Day}
use Rattle.rules.specs.Limits.{position_fit}
use Rattle.rules.specs.Days.{users, hours_done, is_closed, part}
use Rattle.rules.specs.Causes.{beyond_zero, idle_zero, table_fit}
use Rattle.rules.proofs.Zones.{parts_fit}
use Rattle.places.specs.Live.{live_places, part_fit}

-- ---- no zone has more live places than users
pub live_le : (zone : ℤ) (d : Day) → live_places zone d ≤ users d
unfolding live_places
live_le zone d = go (is_closed zone d || is_zero (hours_done zone d))
  where
    go : (b : Bool) → cond b 0 (users d) ≤ users d
    go true = zero-le
    go false = le_refl (users d)

-- ---- tests of every element
module _ {A : Type 0} (p : A → Bool) where
  -- what holds of every element holds of the last
  every_rest : (n : ℕ) (xs : List A) → (every p (drop n xs) && every p xs) ≡ every p xs
  unfolding every
  every_rest zero xs = and_self (every p xs)
  every_rest (suc n) [] = refl
  every_rest (suc n) (x ∷ xs) = go (p x) (every p (drop n xs)) (every p xs) (every_rest n xs)
    where
      go : (a r b : Bool) → (r && b) ≡ b → (r && (a && b)) ≡ (a && b)
      go true r b e = e
      go false r b e = and-false r

-- ---- zeros are in range
zero_fits : (x : ℤ) → is_zero x ≡ true → position_fit x ≡ true
unfolding position_fit
zero_fits (pos zero) h = refl
zero_fits (pos (suc n)) h = absurd (omega (arith, eqb-true (suc n) 0 h))
zero_fits (negsuc n) h = absurd (omega (arith, eqb-true (suc n) 0 h))

zeros_fit : (xs : List ℤ) → every is_zero xs ≡ (every position_fit xs && every is_zero xs)
unfolding every
zeros_fit [] = refl
zeros_fit (x ∷ xs) = go (position_fit x) (is_zero x) (every position_fit xs) (every is_zero xs) (zero_fits x) (zeros_fit xs)
  where
    go : (p z a b : Bool) → (z ≡ true → p ≡ true) → b ≡ (a && b) → (z && b) ≡ ((p && a) && (z && b))
    go p true a b h e = rw (h refl) e
    go p false a b h e = sym (and-false (p && a))

-- a part by its live places and the others
pub live_fit : (xs : List ℤ) (n : ℕ) → (every position_fit (take n xs) && every is_zero (drop n xs)) ≡ part_fit n xs
unfolding part_fit every
live_fit xs zero = zeros_fit xs
live_fit [] (suc n) = refl
live_fit (x ∷ xs) (suc n) = go (position_fit x) _ _ _ (live_fit xs n)
  where
    go : (p a b z : Bool) → (a && z) ≡ (b && z) → ((p && a) && z) ≡ ((p && b) && z)
    go true a b z e = e
    go false a b z e = refl

-- ---- the table by its parts
module _ (d : Day) (t : List ℤ) where
  part_zeros : (zone : ℤ) → (beyond_zero zone d t && idle_zero zone d t) ≡ every is_zero (drop (live_places zone d) (part zone t))
  unfolding beyond_zero idle_zero live_places
  part_zeros zone = go (is_closed zone d || is_zero (hours_done zone d))
    where
      go : (b : Bool)
          → (every is_zero (drop (users d) (part zone t)) && (not b || every is_zero (part zone t)))
          ≡ every is_zero (drop (cond b 0 (users d)) (part zone t))
      go true = every_rest is_zero (users d) (part zone t)
      go false = and-true _

  pub table_parts : length t ≡ 256
      → (part_fit (live_places (pos 0) d) (part (pos 0) t) && part_fit (live_places (pos 1) d) (part (pos 1) t)) ≡ table_fit d t
  unfolding table_fit part_fit
  table_parts long =
      rw (parts_fit t long, ← part_zeros (pos 0), ← part_zeros (pos 1))
      (sym (by_zone
      (every position_fit (part (pos 0) t)) (every position_fit (part (pos 1) t))
      (beyond_zero (pos 0) d t) (beyond_zero (pos 1) d t) (idle_zero (pos 0) d t) (idle_zero (pos 1) d t)))
    where
      by_zone : (p q a b c e : Bool) → ((p && q) && ((a && b) && (c && e))) ≡ ((p && (a && c)) && (q && (b && e)))
      by_zone false q a b c e = refl
      by_zone true false a b c e = sym (and-false (a && c))
      by_zone true true false b c e = refl
      by_zone true true true false c e = sym (and-false c)
      by_zone true true true true c e = refl

-- ---- zeros by `or`
or_zero : (a b : ℕ) → eqb (bit_or a b) 0 ≡ (eqb a 0 && eqb b 0)
or_zero a b = go (eqb a 0) (eqb b 0) refl refl
  where
    go : (p q : Bool) → eqb a 0 ≡ p → eqb b 0 ≡ q → eqb (bit_or a b) 0 ≡ (p && q)
    go true true e f = eq-eqb (bit_or a b) 0 (omega (arith, or_add_and a b, eqb-true a 0 e, eqb-true b 0 f))
    go true false e f = ne_eqb (bit_or a b) 0 (λ z. omega (arith, or_add_and a b, and_le_l a b, and_le_r a b, eqb-false b 0 f))
    go false q e f = ne_eqb (bit_or a b) 0 (λ z. omega (arith, or_add_and a b, and_le_l a b, and_le_r a b, eqb-false a 0 e))

-- the pass's step: one place more
pub zeros_next : (xs : List ℤ) (i all : ℕ) → i < length xs → SFits w64 (get_or xs i (pos 0)) → eqb all 0 ≡ every is_zero (take i xs)
    → eqb (bit_or all (of_z w64 (get_or xs i (pos 0)))) 0 ≡ every is_zero (take (i + 1) xs)
zeros_next xs i all h f e =
    or_zero all (of_z w64 (get_or xs i (pos 0))) ∙ ap₂ (λ (a b : Bool). a && b) e (zero_bits f) ∙ sym (every-step is_zero (pos 0) xs i h)

-- a part to its end
pub to_end : (xs : List ℤ) (n : ℕ) → take (length xs - n) (drop n xs) ≡ drop n xs
to_end xs n = take_all (length xs - n) (drop n xs) (simp length-drop (omega arith))

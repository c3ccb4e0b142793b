-- Whole units, remainders and spare units; and who gets a spare unit, by his place among all remainders. Assumes nothing.
use mathlib.Core.Path.{◌≡◌, refl, sym, ap, ap₂, ◌∙◌}
use mathlib.Core.Bool.{Bool, true, false, ◌&&◌, and-false}
use mathlib.Core.Logic.{◌⊎◌, inl, inr, ⊎_elim}
use mathlib.Core.List.{List, [], ◌∷◌, map}
use Prim.Native.Nat.{ℕ, zero, suc, ◌+◌, ◌*◌, ◌≤◌, ◌<◌, zero-le}
use native.Mathlib.Omega.{arith}
use native.Mathlib.Nat.{div-add-mod', mod-lt, mul-zero, zero-mod, eq-zero-or-pos, le_of_mul-le-mul_right, mul-le-mul_right}
use lib.Dec.{ltb, eqb}
use lib.ListN.{length, get_or, take, length-map}
use borrow.Author.Tests.{ltb-false, lt-ltb, le-ltb}
use Rattle.integers.specs.Lists.{bit, count, sum}
use Rattle.integers.proofs.Counts.{bit-ltb, bit-eqb, count_ext, count_map, get_or-map_at, take-map, length-tabulate, get_or-tabulate}
use Rattle.largest_remainder.specs.Rule.{causer, whole, fraction, spare, rank, settled_at, settled}
use Rattle.largest_remainder.specs.Cuts.{above, IsCut, taken}
use Rattle.largest_remainder.proofs.Cuts.{before, cut_test}

-- a count of causers, by a test that no remainder 0 passes, is the count of the remainders
module _ (f : ℕ → ℕ) (none : f 0 ≡ 0) where
  causer-above : (r y : ℕ) → bit (causer y && ltb r (f y)) ≡ bit (ltb r (f y))
  causer-above r zero = rw none (omega (arith, bit-ltb r 0))
  causer-above r (suc y) = rw (lt-ltb 0 (suc y) (omega arith))

  causer-same : (r : ℕ) → 0 < r → (y : ℕ) → bit (causer y && eqb r (f y)) ≡ bit (eqb r (f y))
  causer-same r h zero = rw none (omega (arith, bit-eqb r 0))
  causer-same r h (suc y) = rw (lt-ltb 0 (suc y) (omega arith))

module _ (sizes : List ℕ) (total : ℕ) where
  -- the remainders of the users, place by place
  abbrev pub fractions : List ℕ
  fractions = map (fraction sizes total) sizes

  pub parts : (x : ℕ) → whole sizes total x * sum sizes + fraction sizes total x ≡ total * x
  unfolding whole fraction
  parts x = div-add-mod' (total * x) (sum sizes)

  fraction_none : fraction sizes total 0 ≡ 0
  unfolding fraction
  fraction_none = rw mul-zero (zero-mod (sum sizes))

  sums : (ys : List ℕ) → sum (map (whole sizes total) ys) * sum sizes + sum (map (fraction sizes total) ys) ≡ total * sum ys
  unfolding sum
  sums [] = omega arith
  sums (y ∷ ys) = omega (arith, parts y, sums ys)

  module _ (some : 0 < sum sizes) where
    pub fraction-less : (x : ℕ) → fraction sizes total x < sum sizes
    unfolding fraction
    fraction-less x = mod-lt (total * x) some

    -- the whole units are no more than the total
    pub wholes_le : sum (map (whole sizes total) sizes) ≤ total
    wholes_le = le_of_mul-le-mul_right (omega (arith, sums sizes)) some

    -- and with the spare units no more either
    spare-fits : sum (map (whole sizes total) sizes) + spare sizes total ≤ total
    unfolding spare
    spare-fits = omega (arith, wholes_le)

    -- the spare units are no more than the sum of the remainders, so there are no more of them than users with one
    fractions-le : (ys : List ℕ) → sum (map (fraction sizes total) ys) ≤ above (map (fraction sizes total) ys) 0 * sum sizes
    unfolding sum count
    fractions-le [] = zero-le
    fractions-le (y ∷ ys) = omega (arith, fractions-le ys, go (ltb 0 (fraction sizes total y)) refl)
      where
        go : (b : Bool) → ltb 0 (fraction sizes total y) ≡ b → fraction sizes total y ≤ bit b * sum sizes
        go true e = omega (arith, fraction-less y)
        go false e = omega (arith, ltb-false 0 (fraction sizes total y) e)

    pub spare-le : spare sizes total ≤ above fractions 0
    spare-le = le_of_mul-le-mul_right (omega (arith, sums sizes, mul-le-mul_right (sum sizes) spare-fits, fractions-le sizes)) some

    module _ (i : ℕ) (h : i < length sizes) where
      fraction_at : get_or fractions i 0 ≡ fraction sizes total (get_or sizes i 0)
      fraction_at = get_or-map_at (fraction sizes total) sizes i 0 0 h

      fraction_in : i < length fractions
      fraction_in = omega (arith, length-map sizes (fraction sizes total))

      -- the causers with a larger remainder are the users with a larger remainder
      larger_eq : (r : ℕ) → count (λ y. causer y && ltb r (fraction sizes total y)) sizes ≡ above fractions r
      larger_eq r =
          count_ext _ _ (causer-above (fraction sizes total) fraction_none r) sizes
          ∙ sym (count_map (λ y. ltb r y) (fraction sizes total) sizes)

      rank_some : 0 < get_or fractions i 0 → rank sizes total i ≡ before fractions i
      unfolding rank
      rank_some k =
          let r = fraction sizes total (get_or sizes i 0) in
          let e = count_ext _ _ (causer-same (fraction sizes total) fraction_none r (omega (arith, fraction_at))) (take i sizes)
          ∙ sym (count_map (λ y. eqb r y) (fraction sizes total) (take i sizes)) in
          rw (fraction_at, take-map) (ap₂ (λ (a b : ℕ). a + b) (larger_eq r) e)

      -- a user without a remainder comes too late for a spare unit
      rank_none : get_or fractions i 0 ≡ 0 → spare sizes total ≤ rank sizes total i
      unfolding rank
      rank_none k =
          omega (arith, larger_eq (fraction sizes total (get_or sizes i 0)), spare-le, ap (λ (x : ℕ). above fractions x) (sym fraction_at ∙ k))

      before_none : get_or fractions i 0 ≡ 0 → spare sizes total ≤ before fractions i
      before_none k = omega (arith, spare-le, ap (λ (x : ℕ). above fractions x) k)

      size_some : 0 < get_or fractions i 0 → 0 < get_or sizes i 0
      size_some k =
          ⊎_elim (λ e. absurd (omega (arith, fraction_at, ap (fraction sizes total) e, fraction_none))) (λ p. p) (eq-zero-or-pos (get_or sizes i 0))

      -- whether the user gets a spare unit, by his place among all remainders
      abbrev pub gets : Bool
      gets = ltb (before fractions i) (spare sizes total)

      gets-rank : (causer (get_or sizes i 0) && ltb (rank sizes total i) (spare sizes total)) ≡ gets
      gets-rank = go (eq-zero-or-pos (get_or fractions i 0))
        where
          go : (get_or fractions i 0 ≡ 0) ⊎ (0 < get_or fractions i 0) → (causer (get_or sizes i 0) && ltb (rank sizes total i) (spare sizes total)) ≡ gets
          go (inl k) =
              cc (
                le-ltb (rank sizes total i) (spare sizes total) (rank_none k),
                and-false (causer (get_or sizes i 0)),
                le-ltb (before fractions i) (spare sizes total) (before_none k),
              )
          go (inr k) = cc (lt-ltb 0 (get_or sizes i 0) (size_some k), rank_some k)

      pub settled_at_lem : settled_at sizes total i ≡ whole sizes total (get_or sizes i 0) + bit gets
      unfolding settled_at
      settled_at_lem = ap (λ (b : Bool). whole sizes total (get_or sizes i 0) + bit b) gets-rank

      -- only a remainder above 0 is made up to a unit
      pub gets_some : bit gets ≤ fraction sizes total (get_or sizes i 0)
      gets_some =
          ⊎_elim
          (λ k. omega (arith, bit-ltb (before fractions i) (spare sizes total), before_none k))
          (λ k. omega (arith, bit-ltb (before fractions i) (spare sizes total), fraction_at))
          (eq-zero-or-pos (get_or fractions i 0))

      -- a cut of the remainders tells who gets one
      pub settled_cut : (at ties : ℕ) → IsCut fractions (spare sizes total) at ties
          → settled_at sizes total i ≡ whole sizes total (get_or sizes i 0) + bit (taken fractions at ties i)
      settled_cut at ties cut =
          settled_at_lem
          ∙ ap (λ (b : Bool). whole sizes total (get_or sizes i 0) + bit b) (cut_test fractions (spare sizes total) at ties cut i fraction_in)

  -- the list of settled sizes, place by place
  pub settled-length : length (settled sizes total) ≡ length sizes
  unfolding settled
  settled-length = length-tabulate (settled_at sizes total) (length sizes)

  pub settled-get_or : (i : ℕ) → i < length sizes → get_or (settled sizes total) i 0 ≡ settled_at sizes total i
  unfolding settled
  settled-get_or i h = get_or-tabulate (settled_at sizes total) (length sizes) i 0 h

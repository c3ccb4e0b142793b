-- What lists of quantities sell and buy: sizes, which add as lists are joined, and of a list of no more users than a day has no more than all users' positions. Assumes nothing.
use mathlib.Core.Path.{◌≡◌, refl, ap, ◌∙◌}
use mathlib.Core.Bool.{Bool, true, false, cond}
use mathlib.Core.List.{List, [], ◌∷◌, ◌++◌, map, map-append}
use Prim.Native.Nat.{ℕ, ◌≤◌}
use native.Mathlib.Omega.{arith}
use native.Mathlib.Nat.{le_refl}
use lib.IntN.{ℤ, pos, nat_abs, neg_ℤ, ◌+ℤ◌}
use lib.ListN.{length, length-map}
use lib.Signed.{lt_z, le_z}
use Rattle.integers.specs.Lists.{sum_ℤ, AtMost}
use Rattle.integers.proofs.Linear.{lin1, lin2, diffs, linear}
use Rattle.integers.proofs.Sizes.{size-neg}
use Rattle.integers.proofs.Sums.{sum-append, at_most_cons, at_most_tail, sum_bound}
use Rattle.rules.specs.Limits.{users_most, position_most, market_most}
use Rattle.rules.specs.Market.{sold_of, bought_of, sold, bought}

-- ---- one quantity
sold_size : (q : ℤ) → nat_abs (sold_of q) ≤ nat_abs q
unfolding sold_of
sold_size q = go (lt_z (pos 0) q)
  where
    go : (b : Bool) → nat_abs (cond b q (pos 0)) ≤ nat_abs q
    go true = le_refl (nat_abs q)
    go false = omega arith

bought_size : (q : ℤ) → nat_abs (bought_of q) ≤ nat_abs q
unfolding bought_of
bought_size q = go (lt_z q (pos 0))
  where
    go : (b : Bool) → nat_abs (cond b (neg_ℤ q) (pos 0)) ≤ nat_abs q
    go true = omega (arith, size-neg q)
    go false = omega arith

-- ---- a list's sums are of small numbers
at_most_map : {n : ℕ} (f : ℤ → ℤ) → ((q : ℤ) → nat_abs (f q) ≤ nat_abs q) → (qs : List ℤ) → AtMost n qs → AtMost n (map f qs)
at_most_map f h [] s = s
at_most_map f h (q ∷ qs) s = at_most_cons (omega (arith, h q, s.at 0)) (at_most_map f h qs (at_most_tail s))

pub at_most_sold : {n : ℕ} (qs : List ℤ) → AtMost n qs → AtMost n (map sold_of qs)
at_most_sold qs s = at_most_map sold_of sold_size qs s

pub at_most_bought : {n : ℕ} (qs : List ℤ) → AtMost n qs → AtMost n (map bought_of qs)
at_most_bought qs s = at_most_map bought_of bought_size qs s

module _ (qs : List ℤ) (few : length qs ≤ users_most) (small : AtMost position_most qs) where
  pub sold_small : nat_abs (sold qs) ≤ market_most
  unfolding sold
  sold_small = omega (arith, sum_bound (map sold_of qs) (at_most_sold qs small), length-map qs sold_of, few)

  pub bought_small : nat_abs (bought qs) ≤ market_most
  unfolding bought
  bought_small = omega (arith, sum_bound (map bought_of qs) (at_most_bought qs small), length-map qs bought_of, few)

-- ---- lists joined
pub sold-append : (xs ys : List ℤ) → sold (xs ++ ys) ≡ sold xs +ℤ sold ys
unfolding sold
sold-append xs ys = ap sum_ℤ (map-append sold_of xs ys) ∙ sum-append (map sold_of xs) (map sold_of ys)

pub bought-append : (xs ys : List ℤ) → bought (xs ++ ys) ≡ bought xs +ℤ bought ys
unfolding bought
bought-append xs ys = ap sum_ℤ (map-append bought_of xs ys) ∙ sum-append (map bought_of xs) (map bought_of ys)

-- ---- neither sum is below zero
pub both_not_below : (x y : ℤ) → le_z (pos 0) x ≡ true → le_z (pos 0) y ≡ true → le_z (pos 0) (x +ℤ y) ≡ true
both_not_below = lin2 _ (λ a b c d. simp diffs (omega linear))

above_zero : (x : ℤ) → lt_z (pos 0) x ≡ true → le_z (pos 0) x ≡ true
above_zero = lin1 _ (λ a b. simp diffs (omega linear))

below_zero : (x : ℤ) → lt_z x (pos 0) ≡ true → le_z (pos 0) (neg_ℤ x) ≡ true
below_zero = lin1 _ (λ a b. simp diffs (omega linear))

sold_of_not_below : (q : ℤ) → le_z (pos 0) (sold_of q) ≡ true
unfolding sold_of
sold_of_not_below q = go (lt_z (pos 0) q) refl
  where
    go : (b : Bool) → lt_z (pos 0) q ≡ b → le_z (pos 0) (cond b q (pos 0)) ≡ true
    go true e = above_zero q e
    go false e = refl

bought_of_not_below : (q : ℤ) → le_z (pos 0) (bought_of q) ≡ true
unfolding bought_of
bought_of_not_below q = go (lt_z q (pos 0)) refl
  where
    go : (b : Bool) → lt_z q (pos 0) ≡ b → le_z (pos 0) (cond b (neg_ℤ q) (pos 0)) ≡ true
    go true e = below_zero q e
    go false e = refl

sum_not_below : (f : ℤ → ℤ) → ((q : ℤ) → le_z (pos 0) (f q) ≡ true) → (qs : List ℤ) → le_z (pos 0) (sum_ℤ (map f qs)) ≡ true
unfolding sum_ℤ
sum_not_below f h [] = refl
sum_not_below f h (q ∷ qs) = both_not_below (f q) (sum_ℤ (map f qs)) (h q) (sum_not_below f h qs)

pub sold_not_below : (qs : List ℤ) → le_z (pos 0) (sold qs) ≡ true
unfolding sold
sold_not_below = sum_not_below sold_of sold_of_not_below

pub bought_not_below : (qs : List ℤ) → le_z (pos 0) (bought qs) ≡ true
unfolding bought
bought_not_below = sum_not_below bought_of bought_of_not_below

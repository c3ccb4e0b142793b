-- Rules 2 to 5: the market after, and each user. Assumes nothing.
use mathlib.Core.Path.{◌≡◌, refl, sym, ap, ◌∙◌}
use mathlib.Core.Bool.{Bool, true, false, cond}
use mathlib.Core.List.{List, [], ◌∷◌, map, zip_with}
use Prim.Native.Nat.{ℕ, zero, suc, ◌+◌, ◌≤◌, ◌<◌, zero-le}
use native.Mathlib.Omega.{arith}
use native.Mathlib.Nat.{le_refl}
use borrow.Author.Tests.{ltb-true, ltb-false, le-ltb, le-leb, leb-true}
use lib.Dec.{ltb}
use lib.IntN.{ℤ, pos, negsuc, nat_abs, neg_ℤ, ◌+ℤ◌, ◌-ℤ◌, +ℤ_idr, neg_ℤ-+ℤ}
use lib.ListN.{length, get_or, length-map, get_or-map, get_or-eq_default}
use lib.Signed.{lt_z, le_z}
use Rattle.integers.specs.Ranges.{natural}
use Rattle.integers.specs.Lists.{sum, sum_ℤ, every, AtMost}
use Rattle.integers.proofs.Linear.{lin1, lin2, lin3, lin4, diffs, linear, not_both}
use Rattle.integers.proofs.Sizes.{size-neg}
use Rattle.integers.proofs.Tests.{both_true, le_self, le_of_test, test_of_le}
use Rattle.integers.proofs.Sums.{sum-zip-sub, length-zip, less_at}
use Rattle.largest_remainder.proofs.Guarantees.{adds_up, accurate, near_at_most, no_more_than_size, settled_long}
use Rattle.rules.specs.Limits.{position_most, position_fit}
use Rattle.rules.specs.Market.{Imbalance, within, excess, shortfall, imbalance_of, imbalance, total, caused, size, sizes, settled_sizes, signed, quantities, after}
use Rattle.rules.specs.Guarantees.{Near, UserAccurate, Accurate, Right, Kept}
use Rattle.rules.proofs.Small.{positions_small}

-- ---- rule 2, by its three cases
pub data View (upper lower market : ℤ) : Imbalance → Type 0 where
  is_within : le_z market upper ≡ true → le_z lower market ≡ true → View upper lower market within
  is_excess : {n : ℕ} → lt_z upper market ≡ true → pos n ≡ market -ℤ upper → View upper lower market (excess n)
  is_shortfall : {n : ℕ} → lt_z market lower ≡ true → pos n ≡ lower -ℤ market → View upper lower market (shortfall n)

-- the difference of two numbers in order, as a size
pub gap : (x y : ℤ) → lt_z x y ≡ true → pos (nat_abs (y -ℤ x)) ≡ y -ℤ x
gap = lin2 _ (λ a b c d. simp diffs (omega linear))

not_less : (x y : ℤ) → lt_z x y ≡ false → le_z y x ≡ true
not_less = lin2 _ (λ a b c d. omega linear)

pub view : (upper lower market : ℤ) → View upper lower market (imbalance_of upper lower market)
unfolding imbalance_of
view upper lower m = go (lt_z upper m) refl (lt_z m lower) refl
  where
    go : (a : Bool) → lt_z upper m ≡ a → (b : Bool) → lt_z m lower ≡ b
        → View upper lower m (cond a (excess (nat_abs (m -ℤ upper))) (cond b (shortfall (nat_abs (lower -ℤ m))) within))
    go true p b q = is_excess p (gap upper m p)
    go false p true q = is_shortfall q (gap m lower q)
    go false p false q = is_within (not_less upper m p) (not_less m lower q)

-- ---- lengths and places of the lists
-- who has no position did not cause, and has no size; and the sign of nothing is nothing
pub caused-none : (i : Imbalance) → caused i (pos 0) ≡ false
unfolding caused
caused-none within = refl
caused-none (excess e) = refl
caused-none (shortfall e) = refl

size-none : (i : Imbalance) → size i (pos 0) ≡ 0
unfolding size caused
size-none within = refl
size-none (excess e) = refl
size-none (shortfall e) = refl

pub signed-none : (i : Imbalance) → signed i 0 ≡ pos 0
unfolding signed
signed-none within = refl
signed-none (excess e) = refl
signed-none (shortfall e) = refl

module _ (i : Imbalance) (ps : List ℤ) where
  pub length-sizes : length (sizes i ps) ≡ length ps
  unfolding sizes
  length-sizes = length-map ps (size i)

  length-settled : length (settled_sizes i ps) ≡ length ps
  unfolding settled_sizes
  length-settled = settled_long (sizes i ps) _ ∙ length-sizes

  pub length-quantities : length (quantities i ps) ≡ length ps
  unfolding quantities
  length-quantities = length-map (settled_sizes i ps) (signed i) ∙ length-settled

  pub length-after : length (after i ps) ≡ length ps
  unfolding after
  length-after = length-zip ◌-ℤ◌ ps (quantities i ps) (sym length-quantities)

  -- a place beyond the users holds nothing
  module _ (u : ℕ) where
    pub size_at : get_or (sizes i ps) u 0 ≡ size i (get_or ps u (pos 0))
    unfolding sizes
    size_at = ap (get_or (sizes i ps) u) (sym (size-none i)) ∙ get_or-map (size i) ps u (pos 0)

    quantity_at : get_or (quantities i ps) u (pos 0) ≡ signed i (get_or (settled_sizes i ps) u 0)
    unfolding quantities
    quantity_at = ap (get_or (quantities i ps) u) (sym (signed-none i)) ∙ get_or-map (signed i) (settled_sizes i ps) u 0

    pub after_at : get_or (after i ps) u (pos 0) ≡ get_or ps u (pos 0) -ℤ get_or (quantities i ps) u (pos 0)
    unfolding after
    after_at = less_at ps (quantities i ps) (sym length-quantities) u

-- ---- a causer's size is its position, or its negated position, as a natural number
-- whoever is below zero in an excess has no size
size_below : (n m : ℕ) → size (excess n) (negsuc m) ≡ 0
unfolding size caused
size_below n m = refl

pub size_excess : (n : ℕ) (p : ℤ) → size (excess n) p ≡ natural p
unfolding size caused natural
size_excess n (pos m) = go (ltb 0 m) refl
  where
    go : (b : Bool) → ltb 0 m ≡ b → cond b m 0 ≡ m
    go true e = refl
    go false e = omega (arith, ltb-false 0 m e)
size_excess n (negsuc m) = size_below n m

pub size_shortfall : (n : ℕ) (p : ℤ) → size (shortfall n) p ≡ natural (neg_ℤ p)
unfolding size caused natural
size_shortfall n (pos zero) = refl
size_shortfall n (pos (suc m)) = rw (le-ltb (suc m) 0 (omega arith))
size_shortfall n (negsuc m) = refl

-- no size is above its position's
pub size-le : (i : Imbalance) (p : ℤ) → size i p ≤ nat_abs p
unfolding size
size-le i p = go (caused i p)
  where
    go : (b : Bool) → cond b (nat_abs p) 0 ≤ nat_abs p
    go true = le_refl (nat_abs p)
    go false = zero-le

pub sizes_small : (i : Imbalance) (ps : List ℤ) → AtMost position_most ps → (u : ℕ) → get_or (sizes i ps) u 0 ≤ position_most
sizes_small i ps s u = omega (arith, size_at i ps u, size-le i (get_or ps u (pos 0)), s.at u)

-- no number is above what it is as a natural
le-natural : (p : ℤ) → le_z p (pos (natural p)) ≡ true
unfolding natural
le-natural (pos m) = le-leb m m (le_refl m)
le-natural (negsuc m) = refl

-- ---- the causers' sizes are no less than the market, or its negation
add-le : (a b x y : ℤ) → le_z x a ≡ true → le_z y b ≡ true → le_z (x +ℤ y) (a +ℤ b) ≡ true
add-le = lin4 _ (λ a b c d e f g h. simp diffs (omega linear))

market_le : (n : ℕ) (ps : List ℤ) → le_z (sum_ℤ ps) (pos (sum (sizes (excess n) ps))) ≡ true
unfolding sum_ℤ sum sizes
market_le n [] = refl
market_le n (p ∷ ps) =
    add-le (pos (size (excess n) p)) (pos (sum (sizes (excess n) ps))) p (sum_ℤ ps) (rw (size_excess n p) (le-natural p)) (market_le n ps)

market_ge : (n : ℕ) (ps : List ℤ) → le_z (neg_ℤ (sum_ℤ ps)) (pos (sum (sizes (shortfall n) ps))) ≡ true
unfolding sum_ℤ sum sizes
market_ge n [] = refl
market_ge n (p ∷ ps) =
    rw (neg_ℤ-+ℤ p (sum_ℤ ps))
    (add-le (pos (size (shortfall n) p)) (pos (sum (sizes (shortfall n) ps))) (neg_ℤ p) (neg_ℤ (sum_ℤ ps)) (rw (size_shortfall n p) (le-natural (neg_ℤ p))) (market_ge n ps))

-- ---- what rule 4 counts on: some size, and a total within the sizes
pub record Shareable (i : Imbalance) (ps : List ℤ) : Type 0 where
  pub some : 0 < sum (sizes i ps)
  pub enough : total i ≤ sum (sizes i ps)

enough_excess : (e s u m : ℤ) → le_z (pos 0) u ≡ true → lt_z u m ≡ true → e ≡ m -ℤ u → le_z m s ≡ true → (lt_z (pos 0) s ≡ true) × (le_z e s ≡ true)
enough_excess = lin4 _ (λ a b c d e f g h. simp diffs (omega linear))

enough_shortfall : (e s l m : ℤ) → le_z l (pos 0) ≡ true → lt_z m l ≡ true → e ≡ l -ℤ m → le_z (neg_ℤ m) s ≡ true
    → (lt_z (pos 0) s ≡ true) × (le_z e s ≡ true)
enough_shortfall = lin4 _ (λ a b c d e f g h. simp diffs (omega linear))

module _ (upper lower : ℤ) (ps : List ℤ) (top : le_z (pos 0) upper ≡ true) (bottom : le_z lower (pos 0) ≡ true) where
  pub share_excess : (n : ℕ) → lt_z upper (sum_ℤ ps) ≡ true → pos n ≡ sum_ℤ ps -ℤ upper → Shareable (excess n) ps
  unfolding total
  share_excess n a b =
      let k = enough_excess (pos n) (pos (sum (sizes (excess n) ps))) upper (sum_ℤ ps) top a b (market_le n ps) in
      record { some = ltb-true 0 _ k.0; enough = leb-true _ _ k.1 }

  pub share_shortfall : (n : ℕ) → lt_z (sum_ℤ ps) lower ≡ true → pos n ≡ lower -ℤ sum_ℤ ps → Shareable (shortfall n) ps
  unfolding total
  share_shortfall n a b =
      let k = enough_shortfall (pos n) (pos (sum (sizes (shortfall n) ps))) lower (sum_ℤ ps) bottom a b (market_ge n ps) in
      record { some = ltb-true 0 _ k.0; enough = leb-true _ _ k.1 }

-- ---- sums
sum-signed : (i : Imbalance) (ns : List ℕ) → sum_ℤ (map (signed i) ns) ≡ signed i (sum ns)
unfolding sum_ℤ sum signed
sum-signed within [] = refl
sum-signed within (n ∷ ns) = rw (sum-signed within ns)
sum-signed (excess e) [] = refl
sum-signed (excess e) (n ∷ ns) = rw (sum-signed (excess e) ns)
sum-signed (shortfall e) [] = refl
sum-signed (shortfall e) (n ∷ ns) = rw (sum-signed (shortfall e) ns) (sym (neg_ℤ-+ℤ (pos n) (pos (sum ns))))

sum-settled : (i : Imbalance) (ps : List ℤ) → Shareable i ps → sum (settled_sizes i ps) ≡ total i
unfolding settled_sizes
sum-settled i ps a = adds_up (sizes i ps) (total i) a.some

-- what rule 5 makes of a size has that sign, and is of that size where somebody caused
sign-signed : (i : Imbalance) (n : ℕ) → signed i n ≡ signed i (nat_abs (signed i n))
unfolding signed
sign-signed within n = refl
sign-signed (excess e) n = refl
sign-signed (shortfall e) n = rw (size-neg (pos n)) refl

size-signed : (i : Imbalance) (n : ℕ) (p : ℤ) → caused i p ≡ true → nat_abs (signed i n) ≡ n
unfolding signed caused
size-signed within n p e = not_both (sym e)
size-signed (excess _) n p e = refl
size-signed (shortfall _) n p e = size-neg (pos n)

-- the sizes of the quantities are the settled sizes
sizes_within : (ns : List ℕ) → sum (map nat_abs (map (signed within) ns)) ≡ 0
unfolding sum signed
sizes_within [] = refl
sizes_within (n ∷ ns) = omega (arith, sizes_within ns)

sizes_excess : (e : ℕ) (ns : List ℕ) → sum (map nat_abs (map (signed (excess e)) ns)) ≡ sum ns
unfolding sum signed
sizes_excess e [] = refl
sizes_excess e (n ∷ ns) = ap (λ (m : ℕ). n + m) (sizes_excess e ns)

sizes_shortfall : (e : ℕ) (ns : List ℕ) → sum (map nat_abs (map (signed (shortfall e)) ns)) ≡ sum ns
unfolding sum signed
sizes_shortfall e [] = refl
sizes_shortfall e (n ∷ ns) = omega (arith, size-neg (pos n), sizes_shortfall e ns)

-- ---- the market after
left_excess : (u m e : ℤ) → e ≡ m -ℤ u → m -ℤ e ≡ u
left_excess = lin3 _ (λ a b c d e f. simp diffs (omega linear))

left_shortfall : (l m e : ℤ) → e ≡ l -ℤ m → m -ℤ neg_ℤ e ≡ l
left_shortfall = lin3 _ (λ a b c d e f. simp diffs (omega linear))

le_zero : (l u : ℤ) → le_z l (pos 0) ≡ true → le_z (pos 0) u ≡ true → le_z l u ≡ true
le_zero = lin2 _ (λ a b c d. simp diffs (omega linear))

-- the market position m less what is settled of it
record MarketAfter (upper lower left : ℤ) : Type 0 where
  not_above : le_z left upper ≡ true
  not_below : le_z lower left ≡ true

market_after : (upper lower m : ℤ) → le_z (pos 0) upper ≡ true → le_z lower (pos 0) ≡ true → {i : Imbalance} → View upper lower m i
    → MarketAfter upper lower (m -ℤ signed i (total i))
unfolding signed total
market_after upper lower m top bottom (is_within a b) = record { not_above = rw (+ℤ_idr m) a; not_below = rw (+ℤ_idr m) b }
market_after upper lower m top bottom (is_excess {n = n} a b) =
    let e = left_excess upper m (pos n) b in
    record { not_above = rw e (le_self upper); not_below = rw e (le_zero lower upper bottom top) }
market_after upper lower m top bottom (is_shortfall {n = n} a b) =
    let e = left_shortfall lower m (pos n) b in
    record { not_above = rw e (le_zero lower upper bottom top); not_below = rw e (le_self lower) }

-- ---- one user

-- a position in range, by its size
position_fit_lem : (p : ℤ) → nat_abs p ≤ position_most → position_fit p ≡ true
unfolding position_fit
position_fit_lem p h = both_true (low p h) (high p h)
  where
    low : (p : ℤ) → nat_abs p ≤ position_most → le_z (neg_ℤ (pos position_most)) p ≡ true
    low = lin1 _ (λ a b. simp diffs (omega linear))

    high : (p : ℤ) → nat_abs p ≤ position_most → le_z p (pos position_most) ≡ true
    high = lin1 _ (λ a b. simp diffs (omega linear))

-- a sale q of at most the position, and of nothing where that is below zero
record Sale (p q : ℤ) : Type 0 where
  not_negative : le_z (pos 0) q ≡ true
  at_most : le_z (pos 0) p ≡ true → le_z q p ≡ true
  nothing : le_z p (pos 0) ≡ true → q ≡ pos 0

sale : (n : ℕ) (p : ℤ) → n ≤ natural p → Sale p (pos n)
unfolding natural
sale n (pos m) h = record {
  not_negative = le-leb 0 n (omega arith);
  at_most = λ e. le-leb n m h;
  nothing = λ e. ap pos (omega (arith, leb-true m 0 e));
}
sale n (negsuc m) h = record { not_negative = le-leb 0 n (omega arith); at_most = λ e. not_both (sym e); nothing = λ e. ap pos (omega arith) }

sell_above : (p q : ℤ) → le_z q p ≡ true → le_z (pos 0) (p -ℤ q) ≡ true
sell_above = lin2 _ (λ a b c d. simp diffs (omega linear))

sell_below : (p q : ℤ) → le_z (pos 0) q ≡ true → le_z p (pos 0) ≡ true → le_z (p -ℤ q) (pos 0) ≡ true
sell_below = lin2 _ (λ a b c d. simp diffs (omega linear))

sell_size : (p q : ℤ) → le_z (pos 0) q ≡ true → le_z q p ≡ true → nat_abs (p -ℤ q) ≤ nat_abs p
sell_size = lin2 _ (λ a b c d. simp diffs (omega linear))

sell_none : (p q : ℤ) → q ≡ pos 0 → nat_abs (p -ℤ q) ≤ nat_abs p
sell_none = lin2 _ (λ a b c d. simp diffs (omega linear))

le_or : (p : ℤ) (A : Type 0) → (le_z (pos 0) p ≡ true → A) → (le_z p (pos 0) ≡ true → A) → A
le_or (pos m) A f g = f (le-leb 0 m (omega arith))
le_or (negsuc m) A f g = g refl

-- what is left after a sale, on either side of zero
record Left (p r : ℤ) : Type 0 where
  above : le_z (pos 0) p ≡ true → le_z (pos 0) r ≡ true
  below : le_z p (pos 0) ≡ true → le_z r (pos 0) ≡ true
  smaller : nat_abs r ≤ nat_abs p

left_sale : (p q : ℤ) → Sale p q → Left p (p -ℤ q)
left_sale p q s = record {
  above = λ e. sell_above p q (s.at_most e);
  below = λ e. sell_below p q s.not_negative e;
  smaller = le_or p _ (λ e. sell_size p q s.not_negative (s.at_most e)) (λ e. sell_none p q (s.nothing e));
}

-- a purchase is a sale of the negated position
negated : (p n : ℤ) → neg_ℤ (neg_ℤ p -ℤ n) ≡ p -ℤ neg_ℤ n
negated = lin2 _ (λ a b c d. simp diffs (omega linear))

neg-le : (x y : ℤ) → le_z x y ≡ true → le_z (neg_ℤ y) (neg_ℤ x) ≡ true
neg-le = lin2 _ (λ a b c d. simp diffs (omega linear))

left_purchase : (p n : ℤ) → Sale (neg_ℤ p) n → Left p (p -ℤ neg_ℤ n)
left_purchase p n s =
    let k = left_sale (neg_ℤ p) n s in
    rw (← negated p n)
    (record {
      above = λ e. neg-le (neg_ℤ p -ℤ n) (pos 0) (k.below (neg-le (pos 0) p e));
      below = λ e. neg-le (pos 0) (neg_ℤ p -ℤ n) (k.above (neg-le p (pos 0) e));
      smaller = omega (arith, size-neg (neg_ℤ p -ℤ n), size-neg p, k.smaller);
    })

-- what a quantity of no more than the causer's size leaves
left_by : (i : Imbalance) (p q : ℤ) → q ≡ signed i (nat_abs q) → nat_abs q ≤ size i p → Left p (p -ℤ q)
unfolding signed
left_by within p q s h =
    rw (s, +ℤ_idr p) (record { above = λ e. e; below = λ e. e; smaller = le_refl (nat_abs p) })
left_by (excess e) p q s h = rw s (left_sale p _ (sale (nat_abs q) p (rw (size_excess e p) at h)))
left_by (shortfall e) p q s h = rw s (left_purchase p _ (sale (nat_abs q) (neg_ℤ p) (rw (size_shortfall e p) at h)))

-- ---- quantities that are right, ours or an operator's
pub no_more_than_own : (i : Imbalance) (S : ℕ) (p q : ℤ) → total i ≤ S → (caused i p ≡ false → q ≡ pos 0) → (caused i p ≡ true → Near i S p q) → nat_abs q ≤ size i p
unfolding size
no_more_than_own i S p q enough none near = go (caused i p) refl
  where
    go : (b : Bool) → caused i p ≡ b → nat_abs q ≤ cond b (nat_abs p) 0
    go true e = near_at_most S (total i) (nat_abs q) (nat_abs p) enough (near e).0
    go false e = rw (none e) (le_refl 0)

module _ {i : Imbalance} {ps qs : List ℤ} (right : Right i ps qs) (enough : total i ≤ sum (sizes i ps)) (u : ℕ) where
  user_kept : AtMost position_most ps
      → UserAccurate i (sum (sizes i ps)) (get_or ps u (pos 0)) (get_or qs u (pos 0)) (get_or ps u (pos 0) -ℤ get_or qs u (pos 0))
  user_kept small =
      let left = left_by i _ _ (right.sign u) (no_more_than_own i _ _ _ enough (right.only_causers u) (right.near u)) in
      record {
        uncaused = right.only_causers u;
        sign = right.sign u;
        near = right.near u;
        rest = refl;
        not_below_zero = λ h. le_of_test (left.above (test_of_le h));
        not_above_zero = λ h. le_of_test (left.below (test_of_le h));
        in_range = position_fit_lem _ (omega (arith, left.smaller, small.at u));
      }

module _ (upper lower : ℤ) (ps : List ℤ) (top : le_z (pos 0) upper ≡ true) (bottom : le_z lower (pos 0) ≡ true)
    (fit : every position_fit ps ≡ true) where
  -- the total is within the sizes, whoever caused
  pub total_enough : {i : Imbalance} → View upper lower (sum_ℤ ps) i → total i ≤ sum (sizes i ps)
  unfolding total
  total_enough (is_within a b) = zero-le
  total_enough (is_excess {n = n} a b) = (share_excess upper lower ps top bottom n a b).enough
  total_enough (is_shortfall {n = n} a b) = (share_shortfall upper lower ps top bottom n a b).enough

  pub kept : {i : Imbalance} → View upper lower (sum_ℤ ps) i → {qs : List ℤ} → length ps ≡ length qs → Right i ps qs
      → Kept upper lower i ps qs (zip_with ◌-ℤ◌ ps qs)
  kept {i} w {qs} long right =
      let market : sum_ℤ (zip_with ◌-ℤ◌ ps qs) ≡ sum_ℤ ps -ℤ signed i (total i) = sum-zip-sub ps qs long ∙ ap (λ (x : ℤ). sum_ℤ ps -ℤ x) right.adds_up in
      let m = market_after upper lower (sum_ℤ ps) top bottom w in
      record {
        not_above = le_of_test (rw market m.not_above);
        not_below = le_of_test (rw market m.not_below);
        each = λ u. rw (less_at ps qs long u) (user_kept right (total_enough w) u (positions_small ps fit));
      }

  -- ---- our own quantities are right
  -- what is settled counts only where there is something to share
  signed_eq : {i : Imbalance} → View upper lower (sum_ℤ ps) i → {m n : ℕ} → (Shareable i ps → m ≡ n) → signed i m ≡ signed i n
  unfolding signed
  signed_eq (is_within a b) same = refl
  signed_eq (is_excess {n = n} a b) same = ap pos (same (share_excess upper lower ps top bottom n a b))
  signed_eq (is_shortfall {n = n} a b) same = ap (λ (m : ℕ). neg_ℤ (pos m)) (same (share_shortfall upper lower ps top bottom n a b))

  sum-quantities : {i : Imbalance} → View upper lower (sum_ℤ ps) i → sum_ℤ (quantities i ps) ≡ signed i (total i)
  unfolding quantities
  sum-quantities {i} w = sum-signed i (settled_sizes i ps) ∙ signed_eq w (sum-settled i ps)

  sizes-quantities : {i : Imbalance} → View upper lower (sum_ℤ ps) i → sum (map nat_abs (quantities i ps)) ≡ total i
  unfolding quantities total
  sizes-quantities (is_within a b) = sizes_within (settled_sizes within ps)
  sizes-quantities (is_excess {n = n} a b) =
      sizes_excess n _ ∙ sum-settled (excess n) ps (share_excess upper lower ps top bottom n a b)
  sizes-quantities (is_shortfall {n = n} a b) =
      sizes_shortfall n _ ∙ sum-settled (shortfall n) ps (share_shortfall upper lower ps top bottom n a b)

  -- where somebody caused there is something to share among
  shareable : {i : Imbalance} → View upper lower (sum_ℤ ps) i → (p : ℤ) → caused i p ≡ true → Shareable i ps
  unfolding caused
  shareable (is_within a b) p e = not_both (sym e)
  shareable (is_excess {n = n} a b) p e = share_excess upper lower ps top bottom n a b
  shareable (is_shortfall {n = n} a b) p e = share_shortfall upper lower ps top bottom n a b

  -- who did not cause is settled for nothing
  module _ (u : ℕ) where
    settled-none : (i : Imbalance) → Shareable i ps → caused i (get_or ps u (pos 0)) ≡ false → get_or (settled_sizes i ps) u 0 ≡ 0
    unfolding settled_sizes size
    settled-none i a e =
        let none : size i (get_or ps u (pos 0)) ≡ 0 = rw e refl in
        omega (arith, no_more_than_size (sizes i ps) (total i) a.some a.enough u, size_at i ps u, none)

    only_own : {i : Imbalance} → View upper lower (sum_ℤ ps) i → caused i (get_or ps u (pos 0)) ≡ false → get_or (quantities i ps) u (pos 0) ≡ pos 0
    only_own {i} w e = quantity_at i ps u ∙ signed_eq w (λ a. settled-none i a e) ∙ signed-none i

    sign_own : (i : Imbalance) → get_or (quantities i ps) u (pos 0) ≡ signed i (nat_abs (get_or (quantities i ps) u (pos 0)))
    sign_own i = rw (quantity_at i ps u) (sign-signed i (get_or (settled_sizes i ps) u 0))

    inside : (i : Imbalance) → caused i (get_or ps u (pos 0)) ≡ true → u < length ps
    inside i e = go (ltb u (length ps)) refl
      where
        go : (b : Bool) → ltb u (length ps) ≡ b → u < length ps
        go true k = ltb-true u (length ps) k
        go false k =
            not_both (sym (rw (get_or-eq_default ps (pos 0) {n = u} (ltb-false u (length ps) k), caused-none i) at e))

    near_own : {i : Imbalance} → View upper lower (sum_ℤ ps) i → caused i (get_or ps u (pos 0)) ≡ true
        → Near i (sum (sizes i ps)) (get_or ps u (pos 0)) (get_or (quantities i ps) u (pos 0))
    unfolding settled_sizes size
    near_own {i} w e =
        let own : get_or (sizes i ps) u 0 ≡ nat_abs (get_or ps u (pos 0)) = size_at i ps u ∙ rw e refl in
        let near = accurate (sizes i ps) (total i) (shareable w _ e).some u (omega (arith, length-sizes i ps, inside i e)) in
        rw (quantity_at i ps u, size-signed i _ _ e) (rw own at near)

  pub own_right : {i : Imbalance} → View upper lower (sum_ℤ ps) i → Right i ps (quantities i ps)
  own_right {i} w = record {
    adds_up = sum-quantities w;
    only_causers = λ u. only_own u w;
    sign = λ u. sign_own u i;
    near = λ u. near_own u w;
  }

  -- and no larger than the positions
  pub own_small : {i : Imbalance} → View upper lower (sum_ℤ ps) i → AtMost position_most (quantities i ps)
  own_small {i} w = record { at = at }
    where
      at : (u : ℕ) → nat_abs (get_or (quantities i ps) u (pos 0)) ≤ position_most
      at u =
          let own = no_more_than_own i _ _ _ (total_enough w) (only_own u w) (near_own u w) in
          omega (arith, own, size-le i (get_or ps u (pos 0)), (positions_small ps fit).at u)

  pub settles : Accurate upper lower (imbalance upper lower ps) ps (quantities (imbalance upper lower ps) ps) (after (imbalance upper lower ps) ps)
  unfolding imbalance after
  settles =
      let w = view upper lower (sum_ℤ ps) in
      record {
        kept = kept w (sym (length-quantities _ ps)) (own_right w);
        adds_up = sizes-quantities w;
        by_rules = λ u h. quantity_at _ ps u;
      }

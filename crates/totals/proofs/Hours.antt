-- An hour sells its excess or buys its shortfall, and that is no more than the market position; and what one call adds is small. Assumes nothing.
use mathlib.Core.Path.{◌≡◌, refl, sym, ap, ap₂, ◌∙◌}
use mathlib.Core.Bool.{true}
use mathlib.Core.List.{List, [], ◌∷◌, map}
use Prim.Native.Nat.{ℕ, zero, suc, ◌≤◌}
use native.Mathlib.Omega.{arith}
use borrow.Author.Tests.{lt-ltb, le-ltb}
use lib.IntN.{ℤ, pos, nat_abs, neg_ℤ, ◌-ℤ◌, ◌+ℤ◌, neg_ℤ-+ℤ}
use lib.ListN.{length}
use lib.Signed.{lt_z, le_z}
use Rattle.integers.specs.Lists.{sum_ℤ, every, AtMost}
use Rattle.integers.proofs.Linear.{lin3, diffs, linear}
use Rattle.rules.specs.declared.HourTerms.{HourTerms}
use Rattle.rules.specs.declared.Sums.{Sums}
use Rattle.rules.specs.Limits.{users_most, position_most, market_most, position_fit}
use Rattle.rules.specs.Market.{Imbalance, within, excess, shortfall, imbalance_of, imbalance, total, signed, quantities, sold_of, bought_of, sold, bought, sums, hour_imbalance, hour_sums}
use Rattle.rules.specs.Causes.{terms_fit, before_fit}
use Rattle.rules.proofs.Accepted.{thresholds_sound}
use Rattle.rules.proofs.Settling.{View, is_within, is_excess, is_shortfall, view, own_right}
use Rattle.integers.proofs.Sums.{sum_bound}
use Rattle.rules.specs.declared.Day.{Day}
use Rattle.rules.specs.Days.{users}
use Rattle.rules.specs.Hours.{Hour, before}
use Rattle.rules.specs.Guarantees.{InputsFit}
use Rattle.rules.proofs.Small.{positions_small}
use Rattle.rules.proofs.Totals.{sold_small, bought_small}
use Rattle.rules.proofs.Conserving.{length_before}
use Rattle.day_record.specs.Small.{SumsSmall}
use Rattle.totals.specs.Sums.{total_sums}

-- ---- the total is no larger than the market position, since zero is between the thresholds
over : (n u m : ℤ) → le_z (pos 0) u ≡ true → lt_z u m ≡ true → n ≡ m -ℤ u → nat_abs n ≤ nat_abs m
over = lin3 _ (λ a b c d e f. simp diffs (omega linear))

under : (n l m : ℤ) → le_z l (pos 0) ≡ true → lt_z m l ≡ true → n ≡ l -ℤ m → nat_abs n ≤ nat_abs m
under = lin3 _ (λ a b c d e f. simp diffs (omega linear))

total_le : (upper lower m : ℤ) → le_z (pos 0) upper ≡ true → le_z lower (pos 0) ≡ true → {i : Imbalance} → View upper lower m i → total i ≤ nat_abs m
unfolding total
total_le upper lower m top bottom (is_within a b) = omega arith
total_le upper lower m top bottom (is_excess {n = n} a b) = over (pos n) upper m top a b
total_le upper lower m top bottom (is_shortfall {n = n} a b) = under (pos n) lower m bottom a b

pub total_small : (k : HourTerms) (m : ℤ) → terms_fit k ≡ true → nat_abs m ≤ market_most → total (imbalance_of k.upper k.lower m) ≤ market_most
total_small k m fit small =
    let b = thresholds_sound k fit in
    omega (arith, total_le k.upper k.lower m b.0 b.1 (view k.upper k.lower m), small)

abbrev both : ℤ → ℤ → Sums
both s b = record { sold = s; bought = b }

-- ---- quantities of one sign
none-sold : (ns : List ℕ) → sold (map (signed within) ns) ≡ pos 0
unfolding sold sum_ℤ sold_of signed
none-sold [] = refl
none-sold (n ∷ ns) = rw (none-sold ns) refl

none-bought : (ns : List ℕ) → bought (map (signed within) ns) ≡ pos 0
unfolding bought sum_ℤ bought_of signed
none-bought [] = refl
none-bought (n ∷ ns) = rw (none-bought ns) refl

sale-sold : (n : ℕ) → sold_of (pos n) ≡ pos n
unfolding sold_of
sale-sold zero = refl
sale-sold (suc n) = rw (lt-ltb 0 (suc n) (omega arith)) refl

sales-sold : (e : ℕ) (ns : List ℕ) → sold (map (signed (excess e)) ns) ≡ sum_ℤ (map (signed (excess e)) ns)
unfolding sold sum_ℤ signed
sales-sold e [] = refl
sales-sold e (n ∷ ns) = ap₂ ◌+ℤ◌ (sale-sold n) (sales-sold e ns)

sale-bought : (n : ℕ) → bought_of (pos n) ≡ pos 0
unfolding bought_of
sale-bought n = rw (le-ltb n 0 (omega arith)) refl

sales-bought : (e : ℕ) (ns : List ℕ) → bought (map (signed (excess e)) ns) ≡ pos 0
unfolding bought sum_ℤ signed
sales-bought e [] = refl
sales-bought e (n ∷ ns) = rw (sale-bought n, sales-bought e ns) refl

purchase-sold : (n : ℕ) → sold_of (neg_ℤ (pos n)) ≡ pos 0
unfolding sold_of
purchase-sold zero = refl
purchase-sold (suc n) = refl

purchases-sold : (e : ℕ) (ns : List ℕ) → sold (map (signed (shortfall e)) ns) ≡ pos 0
unfolding sold sum_ℤ signed
purchases-sold e [] = refl
purchases-sold e (n ∷ ns) = rw (purchase-sold n, purchases-sold e ns) refl

purchase-bought : (n : ℕ) → bought_of (neg_ℤ (pos n)) ≡ neg_ℤ (neg_ℤ (pos n))
unfolding bought_of
purchase-bought zero = refl
purchase-bought (suc n) = refl

purchases-bought : (e : ℕ) (ns : List ℕ) → bought (map (signed (shortfall e)) ns) ≡ neg_ℤ (sum_ℤ (map (signed (shortfall e)) ns))
unfolding bought sum_ℤ signed
purchases-bought e [] = refl
purchases-bought e (n ∷ ns) =
    ap₂ ◌+ℤ◌ (purchase-bought n) (purchases-bought e ns) ∙ sym (neg_ℤ-+ℤ (neg_ℤ (pos n)) (sum_ℤ (map (signed (shortfall e)) ns)))

neg_neg : (n : ℕ) → neg_ℤ (neg_ℤ (pos n)) ≡ pos n
neg_neg zero = refl
neg_neg (suc n) = refl

-- ---- an hour's sums
module _ (upper lower : ℤ) (ps : List ℤ) (top : le_z (pos 0) upper ≡ true) (bottom : le_z lower (pos 0) ≡ true) (fit : every position_fit ps ≡ true) where
  by_total : {i : Imbalance} → View upper lower (sum_ℤ ps) i → total_sums i ≡ sums (quantities i ps)
  unfolding quantities signed total
  by_total (is_within a b) = ap₂ both (sym (none-sold _)) (sym (none-bought _))
  by_total {i} (is_excess {n = n} a b) =
      let adds = (own_right upper lower ps top bottom fit (is_excess a b)).adds_up in
      ap₂ both (sym (sales-sold n _ ∙ adds)) (sym (sales-bought n _))
  by_total (is_shortfall {n = n} a b) =
      let adds = (own_right upper lower ps top bottom fit (is_shortfall a b)).adds_up in
      ap₂ both (sym (purchases-sold n _)) (sym (purchases-bought n _ ∙ ap neg_ℤ adds ∙ neg_neg n))

  total_is_sums : total_sums (imbalance upper lower ps) ≡ sums (quantities (imbalance upper lower ps) ps)
  unfolding imbalance
  total_is_sums = by_total (view upper lower (sum_ℤ ps))

-- ---- what one call adds is small
pub sums_small : (qs : List ℤ) → length qs ≤ users_most → AtMost position_most qs → SumsSmall (sums qs)
sums_small qs few small = record { sold = sold_small qs few small; bought = bought_small qs few small }

total_sums_small : (i : Imbalance) → total i ≤ market_most → SumsSmall (total_sums i)
unfolding total
total_sums_small within h = record { sold = omega arith; bought = omega arith }
total_sums_small (excess n) h = record { sold = h; bought = omega arith }
total_sums_small (shortfall n) h = record { sold = omega arith; bought = h }

-- ---- an hour whose inputs have no cause
module _ (d : Day) (t : List ℤ) (g : Hour) (f : InputsFit d t g) where
  pub market_asked : users d ≤ users_most → (terms_fit g.terms ≡ true) × (nat_abs (sum_ℤ (before d t g)) ≤ market_most)
  unfolding before_fit
  market_asked few = (f.terms, omega (arith, sum_bound (before d t g) (positions_small (before d t g) f.positions), length_before d t g, few))

  -- its total is what it sells or buys
  pub hour_told : total_sums (imbalance_of g.terms.upper g.terms.lower (sum_ℤ (before d t g))) ≡ hour_sums d t g
  unfolding hour_sums hour_imbalance imbalance before_fit
  hour_told = let b = thresholds_sound g.terms f.terms in total_is_sums g.terms.upper g.terms.lower (before d t g) b.0 b.1 f.positions

  pub hour_small : users d ≤ users_most → SumsSmall (hour_sums d t g)
  hour_small few = rw (← hour_told) (total_sums_small _ (total_small g.terms _ f.terms (market_asked few).1))

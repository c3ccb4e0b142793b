-- Tests of each user, and a size that is too large. Assumes nothing.
use mathlib.Core.Path.{◌≡◌, refl, sym, ap, ap₂, ◌∙◌}
use mathlib.Core.Bool.{Bool, true, false, cond, ◌&&◌, ◌||◌, and-true as and-unit, and-false as and-zero}
use mathlib.Core.List.{List, zip_with}
use Prim.Native.Nat.{ℕ, zero, suc, ◌+◌, ◌*◌, ◌≤◌, ◌<◌, zero-le}
use native.Mathlib.Omega.{arith}
use borrow.Author.Tests.{ltb-true, lt-ltb, le-ltb, le-leb, lt-leb, ne_eqb}
use lib.Dec.{ltb}
use lib.IntN.{ℤ, pos, negsuc, nat_abs, neg_ℤ}
use lib.Signed.{lt_z, le_z}
use lib.ListN.{length, get_or, take}
use lib.Seq.{take_all}
use Rattle.integers.specs.Lists.{sum, sum_ℤ, every}
use Rattle.integers.specs.Ranges.{equal, is_zero}
use Rattle.integers.proofs.Tests.{equal-self, is_zero_true}
use Rattle.integers.proofs.Counts.{sum-le}
use Rattle.integers.proofs.Sums.{length-zip, get_or-zip, sum_bound}
use Rattle.integers.proofs.Passes.{every-step}
use Rattle.largest_remainder.proofs.Guarantees.{near_at_most}
use Rattle.rules.specs.Limits.{users_most, position_most, market_most, position_fit}
use Rattle.std.specs.Int.{int_max, int_min}
use Rattle.rules.specs.Market.{Imbalance, excess, shortfall, total, caused, size, sizes, signed}
use Rattle.rules.specs.Judging.{each_user, sign_right, near}
use Rattle.rules.proofs.Small.{positions_small}
use Rattle.rules.proofs.Settling.{length-sizes, sizes_small, signed-none}
use Rattle.rules.specs.declared.Amounts.{Amounts}
use Rattle.positions.specs.Before.{befores}
use Rattle.positions.proofs.Before.{length-befores}

-- A size above the causer's own is not near: who is less than 1 off has no more than its own.
pub far : (i : Imbalance) (S : ℕ) (p q : ℤ) → total i ≤ S → nat_abs p < nat_abs q → near i S p q ≡ false
unfolding near
far i S p q enough above = go (ltb (nat_abs q * S) (total i * nat_abs p + S)) refl
  where
    rest : Bool
    rest = ltb (total i * nat_abs p) (nat_abs q * S + S)

    go : (b : Bool) → ltb (nat_abs q * S) (total i * nat_abs p + S) ≡ b → (b && rest) ≡ false
    go true e = absurd (omega (arith, near_at_most S (total i) (nat_abs q) (nat_abs p) enough (ltb-true _ _ e)))
    go false e = refl

-- ---- the tests of rule 5's sign
pub sale : (q : ℤ) → le_z (pos 0) q ≡ equal q (pos (nat_abs q))
sale (pos n) = le-leb 0 n zero-le ∙ sym (equal-self (pos n))
sale (negsuc n) = refl

pub purchase : (q : ℤ) → le_z q (pos 0) ≡ equal q (neg_ℤ (pos (nat_abs q)))
purchase (pos zero) = refl
purchase (pos (suc n)) = lt-leb (suc n) 0 (omega arith)
purchase (negsuc n) = sym (equal-self (negsuc n))

pub nothing : (q : ℤ) → is_zero q ≡ equal q (pos 0)
nothing (pos zero) = refl
nothing (pos (suc n)) = rw (ne_eqb (suc n) 0 (λ e. omega (arith, e)), lt-leb (suc n) 0 (omega arith)) refl
nothing (negsuc n) = ne_eqb (suc n) 0 (λ e. omega (arith, e))

-- a sign is right where it fits, of every quantity, and is that of a causer or of nothing
pub either : (i : Imbalance) (p q : ℤ) → (equal q (signed i (nat_abs q)) && (is_zero q || caused i p)) ≡ sign_right i p q
unfolding sign_right
either i p q = go (caused i p) (is_zero q) refl
  where
    F : Bool
    F = equal q (signed i (nat_abs q))

    go : (c z : Bool) → is_zero q ≡ z → (F && (z || c)) ≡ cond c F z
    go true true e = and-unit F
    go true false e = and-unit F
    go false true e = rw (is_zero_true q e, signed-none i) refl
    go false false e = and-zero F

-- ---- the size of a causer, as the code takes it
pub size_above : (n : ℕ) (p : ℤ) → nat_abs (int_max p (pos 0)) ≡ size (excess n) p
unfolding size caused
size_above n p = go (lt_z (pos 0) p)
  where
    go : (b : Bool) → nat_abs (cond b p (pos 0)) ≡ cond b (nat_abs p) 0
    go true = refl
    go false = refl

pub size_below : (n : ℕ) (p : ℤ) → nat_abs (int_min p (pos 0)) ≡ size (shortfall n) p
unfolding size caused
size_below n (pos zero) = refl
size_below n (pos (suc m)) = rw (lt-ltb 0 (suc m) (omega arith), le-ltb (suc m) 0 (omega arith)) refl
size_below n (negsuc m) = refl

-- ---- a loop that tests each user: the users passed so far
abbrev pub each_so_far : (ℤ → ℤ → Bool) → List ℤ → List ℤ → ℕ → Bool
each_so_far test ps qs n = every (λ (holds : Bool). holds) (take n (zip_with test ps qs))

-- by the positions before, where right says what was found so far
module _ (test : ℤ → ℤ → Bool) (p : List ℤ) (a : Amounts) (qs : List ℤ) (long : length qs ≡ length a.entries.now)
    (n : ℕ) (right : Bool) (so_far : right ≡ each_so_far test (befores p a) qs n) where
  same : length (befores p a) ≡ length qs
  same = length-befores p a ∙ sym long

  pub each_next : n < length a.entries.now → {fits : Bool} → fits ≡ test (get_or (befores p a) n (pos 0)) (get_or qs n (pos 0))
      → (right && fits) ≡ each_so_far test (befores p a) qs (n + 1)
  each_next h tested =
      let here : n < length (befores p a) = omega (arith, length-befores p a) in
      ap₂ (λ (x y : Bool). x && y) so_far (tested ∙ sym (get_or-zip test (befores p a) qs n (pos 0) (pos 0) false here (omega (arith, same))))
      ∙ sym (every-step (λ (holds : Bool). holds) false (zip_with test (befores p a) qs) n (omega (arith, length-zip test (befores p a) qs same, here)))

  pub each_all : length a.entries.now ≤ n → right ≡ each_user test (befores p a) qs
  unfolding each_user
  each_all h =
      so_far ∙ ap (every (λ (holds : Bool). holds)) (take_all n (zip_with test (befores p a) qs) (omega (arith, length-zip test (befores p a) qs same, length-befores p a)))

-- ---- sums over no more users than a day has
module _ (ps : List ℤ) (few : length ps ≤ users_most) (fit : every position_fit ps ≡ true) where
  pub market_small : nat_abs (sum_ℤ ps) ≤ market_most
  market_small = omega (arith, sum_bound ps (positions_small ps fit), few)

  pub sum_small : (i : Imbalance) → sum (sizes i ps) ≤ market_most
  sum_small i = omega (arith, sum-le position_most (sizes i ps) (sizes_small i ps (positions_small ps fit)), length-sizes i ps, few)

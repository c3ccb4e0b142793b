-- How a number goes on by a digit, when there is one, and how large it is. Assumes nothing.
use mathlib.Core.Path.{◌≡◌, refl}
use mathlib.Core.Bool.{Bool, true, false, ◌&&◌, cond, and-false}
use mathlib.Core.List.{List, [], ◌∷◌}
use Prim.Native.Nat.{ℕ, suc, ◌+◌, ◌-◌, ◌*◌, ◌^◌, ◌≤◌, ◌<◌}
use native.Mathlib.Nat.{pow-succ', pow-le-pow_right, add-zero, lt_of_lt_of_le}
use native.Mathlib.Numerals.{add-one}
use native.Mathlib.Omega.{arith}
use lib.Dec.{eqb, leb, lit<}
use lib.ListN.{length, get_or, drop}
use lib.Seq.{drop-cons}
use borrow.Author.Tests.{leb-true, le-leb, lt-leb}
use Rattle.std.specs.Prelude.{Option, Some, None, IfSome}
use Rattle.integers.proofs.Tests.{and_true}
use Rattle.text.specs.Bytes.{digit0, digit9}
use Rattle.text.specs.Numbers.{is_digit, digits_from, digits_of, needless_zero, unsigned_of}

-- ---- one digit further
module _ (f : List ℕ) (i v : ℕ) (h : i < length f) where
  -- a byte below the digits
  pub below-digits : get_or f i 0 < digit0 → digits_from v (drop i f) ≡ None
  below-digits e = rw (drop-cons f i 0, lt-leb _ _ e)

  -- a byte above the digits
  pub above-digits : digit9 < get_or f i 0 → digits_from v (drop i f) ≡ None
  above-digits e = rw (drop-cons f i 0, lt-leb _ _ e, and-false)

  -- a digit
  pub next_digit : digit0 ≤ get_or f i 0 → get_or f i 0 ≤ digit9
      → digits_from v (drop i f) ≡ digits_from (v * 10 + (get_or f i 0 - digit0)) (drop (i + 1) f)
  next_digit e g = rw (add-one, drop-cons f i 0, le-leb _ _ e, le-leb _ _ g)

-- nine digits are below 10 ^ 9
pub tens : (i : ℕ) → i < 9 → (10 ^ (i + 1) ≡ 10 * 10 ^ i) × (10 ^ i ≤ 100000000)
tens i h = (rw add-one (pow-succ' 10 i), pow-le-pow_right (lit< tt) {i = i} {j = 8} (omega arith))

-- ---- tests that decide whether there is a number

-- what is a number only if a test holds
pub number_if : (b : Bool) (u : Option ℕ) (n : ℕ) → cond b u None ≡ Some n → (b ≡ true) × (u ≡ Some n)
number_if true u n e = (refl, e)
number_if false u n e = let q : ◌≡◌ {A = ℕ} 0 1 = cc in absurd (omega arith)

-- and only if it does not
pub number_unless : (b : Bool) (u : Option ℕ) (n : ℕ) → cond b None u ≡ Some n → (b ≡ false) × (u ≡ Some n)
number_unless true u n e = let q : ◌≡◌ {A = ℕ} 0 1 = cc in absurd (omega arith)
number_unless false u n e = (refl, e)

-- ---- how large a number is

-- digits after those of v, which has at most i
more-below : (f : List ℕ) (v i : ℕ) → v < 10 ^ i → IfSome (digits_from v f) (λ n. n < 10 ^ (i + length f))
more-below [] v i h = rw add-zero h
more-below (x ∷ xs) v i h = go (is_digit x) refl (more-below xs (v * 10 + (x - digit0)) (i + 1))
  where
    step : is_digit x ≡ true → v * 10 + (x - digit0) < 10 ^ (i + 1)
    step e =
        let d = leb-true x digit9 (and_true (leb digit0 x) (leb x digit9) e).1 in
        rw (add-one, pow-succ' 10 i) (omega arith)

    go : (b : Bool) → is_digit x ≡ b
        → (v * 10 + (x - digit0) < 10 ^ (i + 1) → IfSome (digits_from (v * 10 + (x - digit0)) xs) (λ n. n < 10 ^ (i + 1 + length xs)))
        → IfSome (cond b (digits_from (v * 10 + (x - digit0)) xs) None) (λ n. n < 10 ^ (i + suc (length xs)))
    go true e on = let q : i + suc (length xs) ≡ i + 1 + length xs = omega arith in rw q (on (step e))
    go false e on = tt

-- at most k digits are below 10 ^ k
pub digits-below : (f : List ℕ) (k : ℕ) → length f ≤ k → IfSome (digits_from 0 f) (λ n. n < 10 ^ k)
digits-below f k h = wider (digits_from 0 f) (more-below f 0 0 (lit< tt))
  where
    wider : (u : Option ℕ) → IfSome u (λ n. n < 10 ^ (0 + length f)) → IfSome u (λ n. n < 10 ^ k)
    wider (Some n) l = lt_of_lt_of_le l (pow-le-pow_right (lit< tt) {i = 0 + length f} {j = k} (omega arith))
    wider None l = tt

-- and so is the whole number of a field that, having at most nine, has at most k
pub unsigned_below : (f : List ℕ) (k : ℕ) → (length f ≤ 9 → length f ≤ k) → IfSome (unsigned_of f) (λ n. n < 10 ^ k)
unsigned_below f k h = needless (needless_zero f)
  where
    counted : (b : Bool) → (leb 1 (length f) && leb (length f) 9) ≡ b → IfSome (cond b (digits_from 0 f) None) (λ n. n < 10 ^ k)
    counted true e = digits-below f k (h (leb-true (length f) 9 (and_true (leb 1 (length f)) (leb (length f) 9) e).1))
    counted false e = tt

    needless : (b : Bool) → IfSome (cond b None (digits_of f)) (λ n. n < 10 ^ k)
    needless true = tt
    needless false = counted (leb 1 (length f) && leb (length f) 9) refl

-- ---- a leading zero, in a field of several bytes
pub zero_leads : (f : List ℕ) → 1 < length f → needless_zero f ≡ eqb (get_or f 0 0) digit0
zero_leads [] h = absurd (omega arith)
zero_leads (x ∷ []) h = absurd (omega arith)
zero_leads (x ∷ y ∷ ys) h = refl

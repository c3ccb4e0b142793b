-- How many digits a number has, and the digits of a number in terms of its tenth's. Assumes nothing.
use mathlib.Core.Path.{◌≡◌, refl}
use mathlib.Core.Bool.{Bool, true, false}
use mathlib.Core.List.{[], ◌∷◌, ◌++◌}
use Prim.Native.Nat.{ℕ, zero, suc, ◌+◌, ◌/◌, ◌%◌, ◌^◌, ◌≤◌, ◌<◌}
use native.Mathlib.Nat.{not-suc-le-zero, pow-succ'}
use native.Mathlib.Numerals.{add-one}
use native.Mathlib.Omega.{arith}
use lib.Dec.{ltb}
use lib.IntN.{ℤ, pos, negsuc, nat_abs}
use lib.ListN.{length, length-append}
use lib.Signed.{lt_z}
use mir.Syntax.{w64}
use mir.Val.{SFits, to_z, of_z}
use borrow.Author.Tests.{ltb-true, ltb-false, lt-ltb, le-ltb}
use Rattle.integers.proofs.Machine.{read, fits-size}
use Rattle.integers.proofs.Linear.{not_both}
use Rattle.text.specs.Bytes.{line_end, digit0, minus_sign}
use Rattle.text.specs.Decimals.{digits_in, digits, decimal, field}

-- any two bounds that are large enough give the same digits
bound_free : (f g n : ℕ) → n < f → n < g → digits_in f n ≡ digits_in g n
unfolding digits_in
bound_free zero g n h k = absurd (not-suc-le-zero h)
bound_free (suc f) zero n h k = absurd (not-suc-le-zero k)
bound_free (suc f) (suc g) n h k = go (ltb n 10) refl (bound_free f g (n / 10))
  where
    go : (b : Bool) → ltb n 10 ≡ b
        → (n / 10 < f → n / 10 < g → digits_in f (n / 10) ≡ digits_in g (n / 10))
        → digits_in (suc f) n ≡ digits_in (suc g) n
    go true e rest = rw e
    go false e rest =
        let l : 10 ≤ n = ltb-false n 10 e in
        rw (e, rest (omega arith) (omega arith))

pub digits_one : (n : ℕ) → n < 10 → digits n ≡ (digit0 + n) ∷ []
unfolding digits_in digits
digits_one n h = rw (lt-ltb n 10 h)

pub digits_more : (n : ℕ) → 10 ≤ n → digits n ≡ digits (n / 10) ++ ((digit0 + n % 10) ∷ [])
unfolding digits_in digits
digits_more n h = rw (le-ltb n 10 h, bound_free n (suc (n / 10)) (n / 10) (omega arith) (omega arith))

-- a number below 10 ^ (k + 1) has at most k + 1 digits
digits_in_length : (f k n : ℕ) → n < 10 ^ (suc k) → length (digits_in f n) ≤ suc k
unfolding digits_in
digits_in_length zero k n h = omega arith
digits_in_length (suc f) k n h = go k (ltb n 10) refl h (λ j. digits_in_length f j (n / 10))
  where
    go : (k : ℕ) (b : Bool) → ltb n 10 ≡ b → n < 10 ^ (suc k)
        → ((j : ℕ) → n / 10 < 10 ^ (suc j) → length (digits_in f (n / 10)) ≤ suc j)
        → length (digits_in (suc f) n) ≤ suc k
    go k true e h rest = rw e (omega arith)
    go zero false e h rest = absurd (omega (arith, ltb-false n 10 e))
    go (suc j) false e h rest = rw (e, length-append) (omega (arith, rest j (omega arith)))

pub digits-length : (k n : ℕ) → n < 10 ^ (suc k) → length (digits n) ≤ suc k
unfolding digits
digits-length k n h = digits_in_length (suc n) k n h

-- and a number of so many digits is below that power
digits_in_size : (f n : ℕ) → n < f → n < 10 ^ length (digits_in f n)
unfolding digits_in
digits_in_size zero n h = absurd (not-suc-le-zero h)
digits_in_size (suc f) n h = go (ltb n 10) refl (digits_in_size f (n / 10))
  where
    go : (b : Bool) → ltb n 10 ≡ b → (n / 10 < f → n / 10 < 10 ^ length (digits_in f (n / 10))) → n < 10 ^ length (digits_in (suc f) n)
    go true e rest = rw e (omega (arith, ltb-true n 10 e))
    go false e rest =
        let l : 10 ≤ n = ltb-false n 10 e in
        rw (e, length-append (digits_in f (n / 10)), add-one, pow-succ' 10 (length (digits_in f (n / 10)))) (omega (arith, rest (omega arith)))

pub digits-size : (n : ℕ) → n < 10 ^ length (digits n)
unfolding digits
digits-size n = digits_in_size (suc n) n (omega arith)

-- the room that the parts take
pub length_one : (n : ℕ) → n < 10 → length (digits n) ≡ 1
length_one n h = rw (digits_one n h)

pub length_more : (n : ℕ) → 10 ≤ n → length (digits n) ≡ length (digits (n / 10)) + 1
length_more n h = rw (digits_more n h) (length-append (digits (n / 10)) _)

-- ---- signed numbers
pub decimal-negative : (x : ℤ) → lt_z x (pos 0) ≡ true → decimal x ≡ minus_sign ∷ digits (nat_abs x)
unfolding decimal
decimal-negative (pos n) e = absurd (omega (arith, ltb-true n 0 e))
decimal-negative (negsuc n) e = refl

pub decimal-natural : (x : ℤ) → lt_z x (pos 0) ≡ false → decimal x ≡ digits (nat_abs x)
unfolding decimal
decimal-natural (pos n) e = refl
decimal-natural (negsuc n) e = not_both e

pub negative-length : (x : ℤ) → lt_z x (pos 0) ≡ true → length (decimal x) ≡ length (digits (nat_abs x)) + 1
negative-length x e = rw (decimal-negative x e) (omega arith)

pub natural-length : (x : ℤ) → lt_z x (pos 0) ≡ false → length (decimal x) ≡ length (digits (nat_abs x))
natural-length x e = rw (decimal-natural x e)

-- a number below 10 ^ (k + 1) in size has at most k + 1 digits and a sign
pub decimal-size : (k : ℕ) (x : ℤ) → nat_abs x < 10 ^ (suc k) → length (decimal x) ≤ suc k + 1
unfolding decimal
decimal-size k (pos n) h = omega (arith, digits-length k n h)
decimal-size k (negsuc n) h = omega (arith, digits-length k (suc n) h)

-- the size of a number of 64 bits has at most 19 digits
pub size-length : {x : ℤ} → SFits w64 x → {m : ℕ} → m ≡ nat_abs x → length (digits m) ≤ 19
size-length f {m} e = digits-length 18 m (omega (arith, fits-size f))

-- and its text at most 20 bytes; so has the number that a function's proof reads back from its bits
decimal_short : (x : ℤ) → SFits w64 x → length (decimal x) ≤ 20
decimal_short x f = decimal-size 18 x (omega (arith, fits-size f))

pub decimal_room : {x : ℤ} → SFits w64 x → length (decimal (to_z w64 (of_z w64 x))) ≤ 20
decimal_room {x} f = rw (read f) (decimal_short x f)

pub field_room : {x : ℤ} → SFits w64 x → length (field (to_z w64 (of_z w64 x))) ≤ 21
unfolding field
field_room {x} f = rw (read f, length-append (decimal x)) (omega (arith, decimal_short x f))

pub line_end_room : length line_end ≡ 2
unfolding line_end
line_end_room = refl

-- Writing a number and reading it are inverse. Assumes nothing.
use mathlib.Core.Path.{◌≡◌, refl, sym, ap, ◌∙◌}
use mathlib.Core.Bool.{Bool, true, false, ◌&&◌}
use mathlib.Core.List.{List, [], ◌∷◌, ◌++◌, append-nil}
use Prim.Native.Nat.{ℕ, zero, suc, ◌+◌, ◌*◌, ◌-◌, ◌/◌, ◌%◌, ◌^◌, min, ◌≤◌, ◌<◌}
use native.Mathlib.Nat.{not-suc-le-zero}
use native.Mathlib.Omega.{arith}
use lib.Dec.{leb, ltb}
use lib.IntN.{ℤ, pos, negsuc, nat_abs}
use lib.ListN.{length, get_or, length-append, get_or-append}
use lib.Seq.{append_snoc}
use borrow.Author.Tests.{ltb-true, ltb-false, leb-true, le-leb, eqb-false, ne_eqb}
use Rattle.std.specs.Prelude.{Some}
use Rattle.integers.proofs.Tests.{and_true}
use Rattle.text.specs.Bytes.{comma, minus_sign, digit0, digit9}
use Rattle.text.specs.Decimals.{digits, decimal}
use Rattle.text.specs.Numbers.{is_digit, digits_from, digits_of, needless_zero, unsigned_of, has_point, amount_of}
use Rattle.text.proofs.Decimals.{digits_one, digits_more, digits-length}
use Rattle.text.proofs.Numbers.{number_if, number_unless, zero_leads}
use Rattle.text.proofs.Points.{number_no_point, point_among}
use Rattle.file_guarantees.specs.Guarantees.{Size, in_kwh, in_mwh, Means, unsigned, minus}
use Rattle.file_guarantees.proofs.Guarantees.{two_forms}
use Rattle.writer_guarantees.proofs.Lists.{Above, all_append}

-- ---- the digits of a number

-- a byte that is a digit, by its number
digit : (d : ℕ) → d < 10 → (v : ℕ) (f : List ℕ) → digits_from v ((digit0 + d) ∷ f) ≡ digits_from (v * 10 + d) f
digit d h v f =
    let low : digit0 ≤ digit0 + d = omega arith in
    let high : digit0 + d ≤ digit9 = omega arith in
    let back : digit0 + d - digit0 ≡ d = omega arith in
    rw (le-leb _ _ low, le-leb _ _ high, back)

-- what holds of the text l of the number n
record Digits (n : ℕ) (l : List ℕ) : Type 0 where
  -- it is read as n, whatever follows
  pub value : (f : List ℕ) → digits_from 0 (l ++ f) ≡ digits_from n f
  pub some : 0 < length l
  -- its first digit is 0 only if n is
  pub first : digit0 + min 1 n ≤ get_or l 0 0
  pub no_zero : needless_zero l ≡ false
  pub above : Above comma l

-- one digit
one : (n : ℕ) → n < 10 → Digits n ((digit0 + n) ∷ [])
one n h = record {
  value = λ f. digit n h 0 f ∙ ap (λ (v : ℕ). digits_from v f) (omega arith);
  some = omega arith;
  first = omega arith;
  no_zero = refl;
  above = (omega arith, tt);
}

-- one digit more
more : (n : ℕ) (l : List ℕ) → 10 ≤ n → Digits (n / 10) l → Digits n (l ++ ((digit0 + n % 10) ∷ []))
more n l h t =
    let d = digit0 + n % 10 in
    let long = length-append l (d ∷ []) in
    let same = get_or-append l (d ∷ []) 0 0 t.some in
    let other : get_or l 0 0 ≡ digit0 → ⊥ = λ e. omega (arith, t.first) in
    record {
      value = λ f. rw append_snoc (t.value (d ∷ f) ∙ digit (n % 10) (omega arith) (n / 10) f ∙ ap (λ (v : ℕ). digits_from v f) (omega arith));
      some = omega arith;
      first = rw same (omega (arith, t.first));
      no_zero = zero_leads (l ++ (d ∷ [])) (omega (arith, t.some)) ∙ rw same (ne_eqb _ _ other);
      above = all_append _ l (d ∷ []) t.above (omega arith, tt);
    }

-- every number's text
digits_are : (n : ℕ) → Digits n (digits n)
digits_are n = below (suc n) n (omega arith)
  where
    below : (k n : ℕ) → n < k → Digits n (digits n)
    below zero n h = absurd (not-suc-le-zero h)
    below (suc k) n h = go (ltb n 10) refl (below k (n / 10))
      where
        go : (b : Bool) → ltb n 10 ≡ b → (n / 10 < k → Digits (n / 10) (digits (n / 10))) → Digits n (digits n)
        go true e on = let l = ltb-true n 10 e in rw (digits_one n l) (one n l)
        go false e on = let l = ltb-false n 10 e in rw (digits_more n l) (more n (digits (n / 10)) l (on (omega arith)))

-- ---- a number, written and read

-- below 10 ^ 9: the number again
pub unsigned_back : (n : ℕ) → n < 10 ^ 9 → unsigned_of (digits n) ≡ Some n
unsigned_back n h =
    let d = digits_are n in
    let l = digits n in
    rw (d.no_zero, le-leb 1 (length l) d.some, le-leb (length l) 9 (digits-length 8 n h)) (rw append-nil at (d.value []))

-- ---- a number, read and written

-- the first byte of a number is a digit
record Digit (v x : ℕ) (f : List ℕ) (n : ℕ) : Type 0 where
  pub low : digit0 ≤ x
  pub high : x ≤ digit9
  pub rest : digits_from (v * 10 + (x - digit0)) f ≡ Some n

-- since its test held
digit_first : (v x : ℕ) (f : List ℕ) (n : ℕ) → digits_from v (x ∷ f) ≡ Some n → Digit v x f n
digit_first v x f n e =
    let q = number_if (is_digit x) (digits_from (v * 10 + (x - digit0)) f) n e in
    let d = and_true (leb digit0 x) (leb x digit9) q.0 in
    record { low = leb-true digit0 x d.0; high = leb-true x digit9 d.1; rest = q.1 }

-- digits after those of v, which is above 0
digits_on : (f : List ℕ) (v n : ℕ) → 0 < v → digits_from v f ≡ Some n → digits v ++ f ≡ digits n
digits_on [] v n h e = append-nil (digits v) ∙ ap digits (cc)
digits_on (x ∷ f) v n h e =
    let d = digit_first v x f n e in
    let w = v * 10 + (x - digit0) in
    let tenth : w / 10 ≡ v = omega (arith, d.low, d.high) in
    let last : digit0 + w % 10 ≡ x = omega (arith, d.low, d.high) in
    rw (digits_more w (omega arith), tenth, last, append_snoc) at (digits_on f w n (omega arith) d.rest)

-- the field again
pub unsigned_text : (f : List ℕ) (n : ℕ) → unsigned_of f ≡ Some n → f ≡ digits n
unsigned_text f n e =
    let a = number_unless (needless_zero f) (digits_of f) n e in
    let b = number_if (leb 1 (length f) && leb (length f) 9) (digits_from 0 f) n a.1 in
    let c = leb-true 1 (length f) (and_true (leb 1 (length f)) (leb (length f) 9) b.0).0 in
    go f c a.0 b.1
  where
    go : (f : List ℕ) → 1 ≤ length f → needless_zero f ≡ false → digits_from 0 f ≡ Some n → f ≡ digits n
    go [] l z e = absurd (not-suc-le-zero l)
    go (x ∷ []) l z e =
        let d = digit_first 0 x [] n e in
        let v : 0 * 10 + (x - digit0) ≡ n = cc d.rest in
        let b : digit0 + n ≡ x = omega (arith, d.low) in
        sym (digits_one n (omega (arith, d.high)) ∙ rw b)
    go (x ∷ y ∷ ys) l z e =
        let d = digit_first 0 x (y ∷ ys) n e in
        let v = 0 * 10 + (x - digit0) in
        let b : digit0 + v ≡ x = omega (arith, d.low) in
        let p : x ≡ digit0 → ⊥ = eqb-false x digit0 z in
        rw (digits_one v (omega (arith, d.high)), b) at (digits_on (y ∷ ys) v n (omega (arith, d.low)) d.rest)

-- ---- amounts

-- the text of a number has its size: it has no point
digits-size : (n : ℕ) → n < 10 ^ 9 → Size (digits n) n
digits-size n h = let e = unsigned_back n h in in_kwh (digits n) n (number_no_point (digits n) n e) e

-- written and read: below 10 ^ 9 in size, the amount again
pub amount_back : (x : ℤ) → nat_abs x < 10 ^ 9 → amount_of (decimal x) ≡ Some x
unfolding decimal
amount_back (pos n) h = (two_forms (digits n) (pos n)).1 (unsigned (digits-size n h))
amount_back (negsuc n) h = (two_forms (minus_sign ∷ digits (suc n)) (negsuc n)).1 (minus (digits-size (suc n) h))

-- a size without a point is the text of its number
size_text : {f : List ℕ} {n : ℕ} → Size f n → has_point f ≡ false → f ≡ digits n
size_text (in_kwh f n p e) h = unsigned_text f n e
size_text (in_mwh w d m k short i three j) h =
    let p : true ≡ false = sym (point_among w d) ∙ h in
    let q : ◌≡◌ {A = ℕ} 0 1 = cc in
    absurd (omega arith)

-- read and written: the field again, if it has no point
pub amount_text : (f : List ℕ) (x : ℤ) → has_point f ≡ false → amount_of f ≡ Some x → f ≡ decimal x
unfolding decimal
amount_text f x h e = go ((two_forms f x).0 e) h
  where
    go : {f : List ℕ} {x : ℤ} → Means f x → has_point f ≡ false → f ≡ decimal x
    go (unsigned s) h = size_text s h
    go (minus s) h = ap (λ (l : List ℕ). minus_sign ∷ l) (size_text s h)

-- every byte of a number's text is above the comma
pub digits_above : (n : ℕ) → Above comma (digits n)
digits_above n = (digits_are n).above

-- and of an amount's
pub decimal-above : (x : ℤ) → Above comma (decimal x)
unfolding decimal
decimal-above (pos n) = digits_above n
decimal-above (negsuc n) = (omega arith, digits_above (suc n))

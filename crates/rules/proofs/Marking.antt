-- The marks: each place's bit says whether its user caused, and the number of marks is the number of causers. Assumes nothing.
use mathlib.Core.Path.{◌≡◌, refl, sym, ap, ap₂, ◌∙◌}
use mathlib.Core.Bool.{Bool, true, false, cond}
use mathlib.Core.List.{List, [], ◌∷◌}
use Prim.Native.Nat.{ℕ, zero, suc, ◌+◌, ◌-◌, ◌*◌, ◌/◌, ◌%◌, ◌^◌, ◌≤◌, ◌<◌}
use native.Mathlib.Omega.{arith}
use native.Mathlib.Nat.{not-suc-le-zero, le_of_suc-le-suc, pow-succ', zero-div, div-div-eq-div-mul}
use borrow.Author.Tests.{ltb-true, ltb-false}
use lib.Arith.{lt-one}
use lib.Count.{ones_in, ones, ones_step}
use lib.Dec.{ltb, eqb}
use lib.ListN.{length, get_or, take, drop, length-take, length-drop}
use lib.Seq.{get_or-take, get_or-drop, take_all}
use Rattle.integers.specs.Lists.{bit, count}
use Rattle.integers.proofs.Counts.{bit_le}
use Rattle.rules.specs.Market.{word, marks}
use Rattle.rules.specs.Guarantees.{marked}

-- the lowest bit, and the rest
word_low : (b : Bool) (n : ℕ) → ((bit b + 2 * n) % 2 ≡ bit b) × ((bit b + 2 * n) / 2 ≡ n)
word_low b n = omega (arith, bit_le b)

-- beyond its marks a word has none
word-bit : (bs : List Bool) (i : ℕ) → word bs / 2 ^ i % 2 ≡ bit (get_or bs i false)
unfolding word
word-bit [] i = ap (λ (m : ℕ). m % 2) (zero-div (2 ^ i))
word-bit (b ∷ bs) zero = omega (arith, bit_le b)
word-bit (b ∷ bs) (suc i) =
    ap (λ (m : ℕ). (bit b + 2 * word bs) / m % 2) (pow-succ' 2 i)
    ∙ ap (λ (m : ℕ). m % 2) (sym (div-div-eq-div-mul (bit b + 2 * word bs) 2 (2 ^ i)))
    ∙ ap (λ (m : ℕ). m / 2 ^ i % 2) (word_low b (word bs)).1
    ∙ word-bit bs i

-- a word of k marks fits k bits
pub word_fits : (bs : List Bool) (k : ℕ) → length bs ≤ k → word bs < 2 ^ k
unfolding word
word_fits [] zero h = omega arith
word_fits [] (suc k) h = omega (arith, word_fits [] k (omega arith), pow-succ' 2 k)
word_fits (b ∷ bs) zero h = absurd (not-suc-le-zero h)
word_fits (b ∷ bs) (suc k) h = omega (arith, word_fits bs k (le_of_suc-le-suc h), pow-succ' 2 k, bit_le b)

-- its ones are the marks
marks_in : List Bool → ℕ
marks_in bs = count (λ b. b) bs

ones-word : (bs : List Bool) (k : ℕ) → length bs ≤ k → ones_in k (word bs) ≡ marks_in bs
unfolding word count ones_in marks_in
ones-word [] zero h = refl
ones-word [] (suc k) h = omega (arith, ones-word [] k (omega arith))
ones-word (b ∷ bs) zero h = absurd (not-suc-le-zero h)
ones-word (b ∷ bs) (suc k) h =
    ap₂ (λ (m n : ℕ). m + ones_in k n) (word_low b (word bs)).0 (word_low b (word bs)).1
    ∙ ap (λ (m : ℕ). bit b + m) (ones-word bs k (le_of_suc-le-suc h))

-- the count of ones that the machine answers, which does not compute at a word's width
pub ones_in_lem : (k n : ℕ) → n < 2 ^ k → ones_in k n ≡ ones n
unfolding ones_in ones
ones_in_lem zero n h = sym (ap ones (lt-one h))
ones_in_lem (suc k) n h = ap (λ (m : ℕ). n % 2 + m) (ones_in_lem k (n / 2) (omega (arith, pow-succ' 2 k))) ∙ sym (ones_step n)

marks_parts : (k : ℕ) (bs : List Bool) → marks_in (take k bs) + marks_in (drop k bs) ≡ marks_in bs
unfolding marks_in count
marks_parts zero bs = omega arith
marks_parts (suc k) [] = refl
marks_parts (suc k) (b ∷ bs) = omega (arith, marks_parts k bs)

is_bit : (n : ℕ) (b : Bool) → n ≡ bit b → eqb n 1 ≡ b
is_bit n true e = rw e
is_bit n false e = rw e

module _ (bs : List Bool) (few : length bs ≤ 128) where
  pub marked_at : (p : ℕ) → p < 128 → marked (marks bs) p ≡ get_or bs p false
  unfolding marked marks
  marked_at p h = is_bit _ _ (go (ltb p 64) refl)
    where
      go : (b : Bool) → ltb p 64 ≡ b → cond b (word (take 64 bs) / 2 ^ p) (word (take 64 (drop 64 bs)) / 2 ^ (p - 64)) % 2 ≡ bit (get_or bs p false)
      go true e = word-bit (take 64 bs) p ∙ ap bit (get_or-take 64 bs p false (ltb-true p 64 e))
      go false e =
          let q = ltb-false p 64 e in
          let same : 64 + (p - 64) ≡ p = omega arith in
          word-bit (take 64 (drop 64 bs)) (p - 64)
          ∙ ap bit (get_or-take 64 (drop 64 bs) (p - 64) false (omega arith) ∙ get_or-drop 64 bs (p - 64) false ∙ ap (λ (i : ℕ). get_or bs i false) same)

  -- the number of marks answered is the number of causers
  pub marks_number : (marks bs).number ≡ count (λ b. b) bs
  unfolding marks marks_in
  marks_number =
      ap₂ (λ (m n : ℕ). m + n) (ones-word (take 64 bs) 64 (simp length-take (omega arith)))
      (ones-word (take 64 (drop 64 bs)) 64 (simp (length-take, length-drop) (omega arith)))
      ∙ ap (λ (l : List Bool). marks_in (take 64 bs) + marks_in l) (take_all 64 (drop 64 bs) (simp length-drop (omega arith)))
      ∙ marks_parts 64 bs

-- The theorem of specs/Guarantees.antt. Assumes nothing.
use mathlib.Core.Path.{◌≡◌, refl, sym, ap, ap₂, ◌∙◌}
use mathlib.Core.Bool.{Bool, true, false, cond}
use mathlib.Core.List.{List, [], ◌∷◌}
use Prim.Native.Nat.{ℕ, zero, suc, ◌≤◌, ◌<◌, zero-le}
use native.Mathlib.Omega.{arith}
use native.Mathlib.Nat.{not-suc-le-zero}
use lib.Dec.{ltb}
use lib.IntN.{ℤ, pos}
use lib.ListN.{length, get_or, get_or-eq_default}
use lib.Signed.{lt_z}
use borrow.Author.Tests.{ltb-true, ltb-false}
use Rattle.integers.specs.Lists.{bit, count}
use Rattle.largest_remainder.specs.Cuts.{above}
use Rattle.apportionment.specs.Pass.{raised_by, got, through, visited}
use Rattle.apportionment.specs.Guarantees.{EndsWithTheLast}
use Rattle.apportionment.proofs.Handing.{count-done, raised_length, raised_got, through-rest}

-- ---- the last place that passes a test passes it, and none after it does
module _ (f : ℕ → Bool) where
  through-last : (n p : ℕ) → through f n ≡ suc p → f p ≡ true
  unfolding through
  through-last zero p e = absurd (omega (arith, e))
  through-last (suc n) p e = go (f n) refl e (through-last n p)
    where
      go : (b : Bool) → f n ≡ b → cond b (suc n) (through f n) ≡ suc p → (through f n ≡ suc p → f p ≡ true) → f p ≡ true
      go true k q before = let same : n ≡ p = omega (arith, q) in ap f (sym same) ∙ k
      go false k q before = before q

  through-after : (n i : ℕ) → through f n ≤ i → i < n → f i ≡ false
  unfolding through
  through-after zero i h l = absurd (not-suc-le-zero l)
  through-after (suc n) i h l = go (f n) (ltb i n) refl refl h (through-after n i)
    where
      go : (b c : Bool) → f n ≡ b → ltb i n ≡ c → cond b (suc n) (through f n) ≤ i → (through f n ≤ i → i < n → f i ≡ false) → f i ≡ false
      go true c k e a before = absurd (omega (arith, a))
      go false true k e a before = before a (ltb-true i n e)
      go false false k e a before = let same : i ≡ n = omega (arith, ltb-false i n e) in ap f same ∙ k

count_none : (p : ℕ → Bool) (xs : List ℕ) → ((i : ℕ) → i < length xs → p (get_or xs i 0) ≡ false) → count p xs ≡ 0
unfolding count
count_none p [] h = refl
count_none p (x ∷ xs) h = omega (arith, ap bit (h 0 (omega arith)), count_none p xs (λ i l. h (suc i) (omega arith)))

module _ (rs : List ℕ) (at : ℕ) (old : List ℤ) (long : length rs ≡ length old) where
  -- who got a kWh, and how far the pass went
  abbrev test : ℕ → Bool
  test = got old (raised_by rs at old)

  abbrev number : ℕ
  number = through test (length old)

  -- nobody beyond the list
  got_none : (i : ℕ) → length old ≤ i → test i ≡ false
  got_none i h =
      ap₂ lt_z
      (get_or-eq_default old (pos 0) h)
      (get_or-eq_default (raised_by rs at old) (pos 0) (omega (arith, raised_length rs at old)))

  ended_none : above rs at ≡ 0 → number ≡ 0
  unfolding through count
  ended_none e =
      through-rest test 0 (length old) zero-le
      (λ i a l. raised_got rs at old i l ∙ count-done (λ r. ltb at r) rs 0 (omega (arith, e)) i a (omega arith))

  ended_rest : (i : ℕ) → number ≤ i → test i ≡ false
  ended_rest i h = go (ltb i (length old)) refl
    where
      go : (b : Bool) → ltb i (length old) ≡ b → test i ≡ false
      go true e = through-after test (length old) i h (ltb-true i (length old) e)
      go false e = got_none i (ltb-false i (length old) e)

  -- where nobody got one, none was spare
  none_spare : number ≡ 0 → above rs at ≡ 0
  none_spare e = count_none (λ r. ltb at r) rs (λ i l. sym (raised_got rs at old i (omega arith)) ∙ ended_rest i (omega (arith, e)))

  ended_last : (n : ℕ) → number ≡ n → 0 < above rs at → (place : ℕ) × ((number ≡ suc place) × (test place ≡ true))
  ended_last zero e h = absurd (omega (arith, h, none_spare e))
  ended_last (suc p) e h = (p, (e, through-last test (length old) p e))

pub ends_with_the_last : EndsWithTheLast
unfolding visited
ends_with_the_last rs at n old long e = record {
  none = λ h. ended_none rs at old long (omega (arith, e, h));
  last = λ h. ended_last rs at old long _ refl (omega (arith, e, h));
  rest = ended_rest rs at old long;
}

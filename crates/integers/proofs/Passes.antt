-- Loops over a list in place order: one that writes a list, one that tests every element, one that adds the elements. For each: what holds before the first turn,
-- after a turn, and at the end. Assumes nothing.
use mathlib.Core.Path.{◌≡◌, refl, sym, ap, ◌∙◌}
use mathlib.Core.Bool.{Bool, true, false, ◌&&◌, and_assoc, and-true as and-unit}
use mathlib.Core.List.{List, [], ◌∷◌, ◌++◌, append-nil}
use Prim.Native.Nat.{ℕ, zero, suc, ◌+◌, ◌*◌, ◌^◌, ◌≤◌, ◌<◌, zero-le}
use native.Mathlib.Nat.{not-suc-le-zero, le_of_suc-le-suc}
use native.Mathlib.Numerals.{add-one}
use native.Mathlib.Omega.{arith}
use lib.IntN.{ℤ, pos, nat_abs, ◌+ℤ◌}
use lib.ListN.{length, set, take, drop, get_or, length-set, drop_of_length-le, take-append-drop}
use lib.Seq.{drop-cons, take-suc, take_all, length-take-le, set_at, get_or_at, append_snoc}
use mir.Syntax.{w64}
use mir.Val.{SFits, to_z, of_z}
use Rattle.integers.specs.Lists.{sum_ℤ, every, AtMost}
use Rattle.integers.proofs.Machine.{read, read_le, fits-add}
use Rattle.integers.proofs.Sizes.{size_eq}
use Rattle.integers.proofs.Tests.{and_true}
use Rattle.integers.proofs.Sums.{sum_ℤ-step, sum-take_bound, at_most_cons}

-- ---- a loop that writes the list t over the list o, of any elements, fresh or in place: it has come to i
pub record Written {A : Type 0} (t o out : List A) (i : ℕ) : Type 0 where
  pub long : length out ≡ length o
  pub is : out ≡ take i t ++ drop i o

module _ {A : Type 0} (t o : List A) where
  pub written_none : Written t o o 0
  written_none = record { long = refl; is = refl }

  module _ (out : List A) (i : ℕ) (w : Written t o out i) (l : length t ≡ length o) where
    -- what the turn reads is as it was
    pub written_elem : (z : A) → i < length o → get_or out i z ≡ get_or o i z
    written_elem z h = rw (w.is, drop-cons o i z) (get_or_at (take i t) _ _ z i (length-take-le i t (omega arith)))

    pub written_next : (z v : A) → i < length o → v ≡ get_or t i z → Written t o (set out i v) (i + 1)
    written_next z v h e = record { long = length-set out i v ∙ w.long; is = next }
      where
        next : set out i v ≡ take (i + 1) t ++ drop (i + 1) o
        next =
            let k : i < length t = omega arith in
            rw (w.is, add-one, drop-cons o i z, take-suc t i z, e)
            (set_at (take i t) _ _ _ i (length-take-le i t (omega arith)) ∙ sym (append_snoc (take i t) _ _))

    pub written_all : length o ≤ i → out ≡ t
    written_all h =
        let k : length t ≤ i = omega arith in
        w.is ∙ rw (take_all i t, drop_of_length-le o) (append-nil t)

    -- a loop that may end early, where the rest of t is the rest of o
    pub written_rest : drop i t ≡ drop i o → out ≡ t
    written_rest e = w.is ∙ rw (← e) (take-append-drop i t)

-- ---- a loop that tests every element of xs and stops at the first that fails: the invariant is `every p xs ≡ every p (drop i xs)`
module _ {A : Type 0} (p : A → Bool) (xs : List A) (i : ℕ) where
  pub every_end : length xs ≤ i → every p (drop i xs) ≡ true
  unfolding every
  every_end h = rw (drop_of_length-le xs)

  pub every-next : (z : A) → i < length xs → p (get_or xs i z) ≡ true → every p (drop i xs) ≡ every p (drop (i + 1) xs)
  unfolding every
  every-next z h e = rw (add-one, drop-cons xs i z, e)

  pub every_stop : (z : A) → i < length xs → p (get_or xs i z) ≡ false → every p (drop i xs) ≡ false
  unfolding every
  every_stop z h e = rw (drop-cons xs i z, e)

-- ---- a loop that tests every element of xs to the end: the invariant is `fit ≡ every p (take i xs)`
module _ {A : Type 0} (p : A → Bool) where
  pub every_append : (xs ys : List A) → every p (xs ++ ys) ≡ (every p xs && every p ys)
  unfolding every
  every_append [] ys = refl
  every_append (x ∷ xs) ys = ap (λ (b : Bool). p x && b) (every_append xs ys) ∙ sym (and_assoc (p x) (every p xs) (every p ys))

  -- a loop's step: one element more
  pub every-step : (z : A) (xs : List A) (i : ℕ) → i < length xs → every p (take (i + 1) xs) ≡ (every p (take i xs) && p (get_or xs i z))
  unfolding every
  every-step z xs i h = rw (add-one, take-suc xs i z) (every_append (take i xs) (get_or xs i z ∷ []) ∙ ap (λ (b : Bool). every p (take i xs) && b) (and-unit (p (get_or xs i z))))

-- what holds of every element holds of the first, of the last and of each
pub every_take : {A : Type 0} (p : A → Bool) (n : ℕ) (xs : List A) → every p xs ≡ true → every p (take n xs) ≡ true
every_take p n xs e =
    (and_true (every p (take n xs)) (every p (drop n xs)) (sym (every_append p (take n xs) (drop n xs)) ∙ ap (every p) (take-append-drop n xs) ∙ e)).0

pub every_drop : {A : Type 0} (p : A → Bool) (n : ℕ) (xs : List A) → every p xs ≡ true → every p (drop n xs) ≡ true
every_drop p n xs e =
    (and_true (every p (take n xs)) (every p (drop n xs)) (sym (every_append p (take n xs) (drop n xs)) ∙ ap (every p) (take-append-drop n xs) ∙ e)).1

pub every_at : {A : Type 0} (p : A → Bool) (xs : List A) (i : ℕ) (z : A) → every p xs ≡ true → i < length xs → p (get_or xs i z) ≡ true
unfolding every
every_at p [] i z e h = absurd (not-suc-le-zero h)
every_at p (x ∷ xs) zero z e h = (and_true (p x) (every p xs) e).0
every_at p (x ∷ xs) (suc i) z e h = every_at p xs i z (and_true (p x) (every p xs) e).1 (le_of_suc-le-suc h)

-- a test that bounds each element
pub every_at_most : (p : ℤ → Bool) (n : ℕ) → ((x : ℤ) → p x ≡ true → nat_abs x ≤ n) → (xs : List ℤ) → every p xs ≡ true → AtMost n xs
unfolding every
every_at_most p n h [] e = record { at = λ i. zero-le }
every_at_most p n h (x ∷ xs) e = let k = and_true (p x) (every p xs) e in at_most_cons (h x k.0) (every_at_most p n h xs k.1)

-- ---- a loop that adds the elements of xs to a signed local, whose bits are s: the invariant is `to_z w64 s ≡ sum_ℤ (take i xs)`
module _ (xs : List ℤ) (i s : ℕ) (v : ℤ) (inv : to_z w64 s ≡ sum_ℤ (take i xs)) (is : v ≡ get_or xs i (pos 0)) where
  pub added-fits : (n : ℕ) → AtMost n xs → (i + 1) * n < 2 ^ 63 → SFits w64 (to_z w64 s +ℤ v)
  added-fits n m h = omega (arith, fits-add, size_eq, m.at i, sum-take_bound i xs m)

  pub added_next : i < length xs → SFits w64 (to_z w64 s +ℤ v) → to_z w64 (of_z w64 (to_z w64 s +ℤ v)) ≡ sum_ℤ (take (i + 1) xs)
  added_next h f = read f ∙ simp (inv, is) (sym (sum_ℤ-step xs i h))

-- ---- a bounded element that is read, also where the loop's list still has it
module _ {n : ℕ} {xs : List ℤ} (s : AtMost n xs) where
  pub read_elem : (i : ℕ) → nat_abs (to_z w64 (of_z w64 (get_or xs i (pos 0)))) ≤ n
  read_elem i = read_le (get_or xs i (pos 0)) n (s.at i)

  pub read_still : (out : List ℤ) (i : ℕ) → get_or out i (pos 0) ≡ get_or xs i (pos 0) → nat_abs (to_z w64 (of_z w64 (get_or out i (pos 0)))) ≤ n
  read_still out i e = read_le (get_or out i (pos 0)) n (rw e (s.at i))

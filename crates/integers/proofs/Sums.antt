-- Sums of lists of integers, and lists whose elements are bounded in size. Assumes nothing.
use mathlib.Core.Path.{◌≡◌, refl, sym, ap, ◌∙◌}
use mathlib.Core.List.{List, [], ◌∷◌, ◌++◌, zip_with}
use Prim.Native.Nat.{ℕ, zero, suc, ◌+◌, ◌*◌, ◌≤◌, ◌<◌, zero-le}
use native.Mathlib.Omega.{arith}
use native.Mathlib.Nat.{le_of_suc-le-suc, not-suc-le-zero}
use native.Mathlib.Numerals.{add-one}
use lib.IntN.{ℤ, pos, nat_abs, ◌+ℤ◌, ◌-ℤ◌, +ℤ_idl, +ℤ_idr, +ℤ_assoc}
use lib.ListN.{length, take, drop, get_or}
use lib.Seq.{take-suc}
use Rattle.integers.specs.Lists.{sum_ℤ, AtMost}
use Rattle.integers.proofs.Linear.{lin4, diffs, linear}
use Rattle.integers.proofs.Sizes.{size-add}

pub sum-append : (xs ys : List ℤ) → sum_ℤ (xs ++ ys) ≡ sum_ℤ xs +ℤ sum_ℤ ys
unfolding sum_ℤ
sum-append [] ys = sym (+ℤ_idl (sum_ℤ ys))
sum-append (x ∷ xs) ys = ap (λ (z : ℤ). x +ℤ z) (sum-append xs ys) ∙ sym (+ℤ_assoc x (sum_ℤ xs) (sum_ℤ ys))

-- a loop's step: one element more
pub sum_ℤ-step : (xs : List ℤ) (i : ℕ) → i < length xs → sum_ℤ (take (i + 1) xs) ≡ sum_ℤ (take i xs) +ℤ get_or xs i (pos 0)
unfolding sum_ℤ
sum_ℤ-step xs i h = rw (add-one, take-suc xs i (pos 0), sum-append) (ap (λ (z : ℤ). sum_ℤ (take i xs) +ℤ z) (+ℤ_idr (get_or xs i (pos 0))))

-- the sum of pointwise differences
pub sum-zip-sub : (xs ys : List ℤ) → length xs ≡ length ys → sum_ℤ (zip_with ◌-ℤ◌ xs ys) ≡ sum_ℤ xs -ℤ sum_ℤ ys
unfolding sum_ℤ zip_with
sum-zip-sub [] [] e = refl
sum-zip-sub [] (y ∷ ys) e = absurd (omega arith)
sum-zip-sub (x ∷ xs) [] e = absurd (omega arith)
sum-zip-sub (x ∷ xs) (y ∷ ys) e = rw (sum-zip-sub xs ys (omega arith)) (swap x y (sum_ℤ xs) (sum_ℤ ys))
  where
    swap : (x y s t : ℤ) → (x -ℤ y) +ℤ (s -ℤ t) ≡ (x +ℤ s) -ℤ (y +ℤ t)
    swap = lin4 _ (λ a b c d e f g h. simp diffs (omega linear))

-- ---- lists whose elements are at most n in size
pub at_most_tail : {n : ℕ} {x : ℤ} {xs : List ℤ} → AtMost n (x ∷ xs) → AtMost n xs
at_most_tail s = record { at = λ i. s.at (suc i) }

pub at_most_cons : {n : ℕ} {x : ℤ} {xs : List ℤ} → nat_abs x ≤ n → AtMost n xs → AtMost n (x ∷ xs)
at_most_cons {n} {x} {xs} h s = record { at = go }
  where
    go : (i : ℕ) → nat_abs (get_or (x ∷ xs) i (pos 0)) ≤ n
    go zero = h
    go (suc i) = s.at i

pub at_most_take : {n : ℕ} (k : ℕ) (xs : List ℤ) → AtMost n xs → AtMost n (take k xs)
at_most_take zero xs s = record { at = λ i. zero-le }
at_most_take (suc k) [] s = s
at_most_take (suc k) (x ∷ xs) s = at_most_cons (s.at 0) (at_most_take k xs (at_most_tail s))

pub at_most_drop : {n : ℕ} (k : ℕ) (xs : List ℤ) → AtMost n xs → AtMost n (drop k xs)
at_most_drop zero xs s = s
at_most_drop (suc k) [] s = s
at_most_drop (suc k) (x ∷ xs) s = at_most_drop k xs (at_most_tail s)

pub sum_bound : {n : ℕ} (xs : List ℤ) → AtMost n xs → nat_abs (sum_ℤ xs) ≤ length xs * n
unfolding sum_ℤ
sum_bound [] s = omega arith
sum_bound (x ∷ xs) s = omega (arith, size-add x (sum_ℤ xs), s.at 0, sum_bound xs (at_most_tail s))

pub sum-take_bound : {n : ℕ} (i : ℕ) (xs : List ℤ) → AtMost n xs → nat_abs (sum_ℤ (take i xs)) ≤ i * n
unfolding sum_ℤ
sum-take_bound zero xs s = omega arith
sum-take_bound (suc i) [] s = omega arith
sum-take_bound (suc i) (x ∷ xs) s = omega (arith, size-add x (sum_ℤ (take i xs)), s.at 0, sum-take_bound i xs (at_most_tail s))

-- ---- pointwise lists
module _ {A B C : Type 0} (f : A → B → C) where
  pub length-zip : (xs : List A) (ys : List B) → length xs ≡ length ys → length (zip_with f xs ys) ≡ length xs
  unfolding zip_with
  length-zip [] ys e = refl
  length-zip (x ∷ xs) [] e = absurd (omega arith)
  length-zip (x ∷ xs) (y ∷ ys) e = ap suc (length-zip xs ys (omega arith))

  pub get_or-zip : (xs : List A) (ys : List B) (i : ℕ) (x : A) (y : B) (z : C) → i < length xs → i < length ys
      → get_or (zip_with f xs ys) i z ≡ f (get_or xs i x) (get_or ys i y)
  unfolding zip_with
  get_or-zip [] ys i x y z h k = absurd (not-suc-le-zero h)
  get_or-zip (a ∷ xs) [] i x y z h k = absurd (not-suc-le-zero k)
  get_or-zip (a ∷ xs) (b ∷ ys) zero x y z h k = refl
  get_or-zip (a ∷ xs) (b ∷ ys) (suc i) x y z h k = get_or-zip xs ys i x y z (le_of_suc-le-suc h) (le_of_suc-le-suc k)

-- pointwise differences at any place: beyond both lists is 0, and 0 less 0 is 0
pub less_at : (xs ys : List ℤ) → length xs ≡ length ys → (i : ℕ) → get_or (zip_with ◌-ℤ◌ xs ys) i (pos 0) ≡ get_or xs i (pos 0) -ℤ get_or ys i (pos 0)
unfolding zip_with
less_at [] [] e i = refl
less_at [] (y ∷ ys) e i = absurd (omega arith)
less_at (x ∷ xs) [] e i = absurd (omega arith)
less_at (x ∷ xs) (y ∷ ys) e zero = refl
less_at (x ∷ xs) (y ∷ ys) e (suc i) = less_at xs ys (omega arith) i

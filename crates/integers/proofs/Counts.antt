-- Tests as numbers, counts of the elements that pass a test, sums of naturals, and lists given place by place. Assumes nothing.
use mathlib.Core.Path.{◌≡◌, refl, ap, ap₂}
use mathlib.Core.Bool.{Bool, true, false}
use mathlib.Core.List.{List, [], ◌∷◌, map}
use Prim.Native.Nat.{ℕ, zero, suc, ◌+◌, ◌-◌, ◌*◌, ◌≤◌, ◌<◌, min, zero-le}
use native.Mathlib.Omega.{arith}
use native.Mathlib.Nat.{not-suc-le-zero, le_of_suc-le-suc}
use native.Mathlib.Numerals.{add-one}
use lib.Dec.{ltb, eqb}
use lib.ListN.{length, get_or, take, drop}
use borrow.Author.Tests.{ltb-true, ltb-false, eqb-true, eqb-false}
use Rattle.integers.specs.Lists.{bit, count, sum, tabulate}

-- ---- a test of numbers, as `omega` reads it
pub bit-ltb : (a b : ℕ) → bit (ltb a b) ≡ min 1 (b - a)
bit-ltb a b = go (ltb a b) refl
  where
    go : (t : Bool) → ltb a b ≡ t → bit t ≡ min 1 (b - a)
    go true e = omega (arith, ltb-true a b e)
    go false e = omega (arith, ltb-false a b e)

pub bit-eqb : (a b : ℕ) → bit (eqb a b) ≡ 1 - ((a - b) + (b - a))
bit-eqb a b = go (eqb a b) refl
  where
    go : (t : Bool) → eqb a b ≡ t → bit t ≡ 1 - ((a - b) + (b - a))
    go true e = omega (arith, eqb-true a b e)
    go false e = omega (arith, eqb-false a b e)

pub bit_le : (b : Bool) → bit b ≤ 1
bit_le true = omega arith
bit_le false = omega arith

-- ---- counts
module _ {A : Type 0} where
  -- by what the tests say of each element
  pub count_ext : (p q : A → Bool) → ((x : A) → bit (p x) ≡ bit (q x)) → (xs : List A) → count p xs ≡ count q xs
  unfolding count
  count_ext p q h [] = refl
  count_ext p q h (x ∷ xs) = omega (arith, h x, count_ext p q h xs)

  pub count_split : (p q s : A → Bool) → ((x : A) → bit (p x) + bit (q x) ≡ bit (s x)) → (xs : List A) → count p xs + count q xs ≡ count s xs
  unfolding count
  count_split p q s h [] = refl
  count_split p q s h (x ∷ xs) = omega (arith, h x, count_split p q s h xs)

  pub count_two : (p q s : A → Bool) → ((x : A) → bit (p x) + bit (q x) ≤ bit (s x)) → (xs : List A) → count p xs + count q xs ≤ count s xs
  unfolding count
  count_two p q s h [] = zero-le
  count_two p q s h (x ∷ xs) = omega (arith, h x, count_two p q s h xs)

  pub count_map : {B : Type 0} (p : A → Bool) (f : B → A) (xs : List B) → count p (map f xs) ≡ count (λ x. p (f x)) xs
  unfolding count
  count_map p f [] = refl
  count_map p f (x ∷ xs) = omega (arith, count_map p f xs)

  -- a loop's step: one element more
  pub count-step : (p : A → Bool) (xs : List A) (i : ℕ) (z : A) → i < length xs
      → count p (take (i + 1) xs) ≡ count p (take i xs) + bit (p (get_or xs i z))
  unfolding count
  count-step p xs i z h = rw add-one (go xs i h)
    where
      go : (xs : List A) (i : ℕ) → i < length xs → count p (take (suc i) xs) ≡ count p (take i xs) + bit (p (get_or xs i z))
      go [] i h = absurd (not-suc-le-zero h)
      go (x ∷ xs) zero h = omega arith
      go (x ∷ xs) (suc i) h = omega (arith, go xs i (le_of_suc-le-suc h))

-- ---- sums of naturals

-- a loop's step: one element more
pub sum_step : (xs : List ℕ) (i : ℕ) → i < length xs → sum (take (i + 1) xs) ≡ sum (take i xs) + get_or xs i 0
unfolding sum
sum_step xs i h = rw add-one (go xs i h)
  where
    go : (xs : List ℕ) (i : ℕ) → i < length xs → sum (take (suc i) xs) ≡ sum (take i xs) + get_or xs i 0
    go [] i h = absurd (not-suc-le-zero h)
    go (x ∷ xs) zero h = omega arith
    go (x ∷ xs) (suc i) h = omega (arith, go xs i (le_of_suc-le-suc h))

pub sum-take-le : (xs : List ℕ) (i : ℕ) → sum (take i xs) ≤ sum xs
unfolding sum
sum-take-le xs zero = omega arith
sum-take-le [] (suc i) = omega arith
sum-take-le (x ∷ xs) (suc i) = omega (arith, sum-take-le xs i)

-- elements that are at most n
pub sum-le : (n : ℕ) (xs : List ℕ) → ((i : ℕ) → get_or xs i 0 ≤ n) → sum xs ≤ length xs * n
unfolding sum
sum-le n [] h = omega arith
sum-le n (x ∷ xs) h = omega (arith, h 0, sum-le n xs (λ i. h (suc i)))

pub get_or-le-sum : (xs : List ℕ) (i : ℕ) → get_or xs i 0 ≤ sum xs
unfolding sum
get_or-le-sum [] i = omega arith
get_or-le-sum (x ∷ xs) zero = omega arith
get_or-le-sum (x ∷ xs) (suc i) = omega (arith, get_or-le-sum xs i)

-- ---- lists given place by place
module _ {A : Type 0} where
  pub length-tabulate : (f : ℕ → A) (n : ℕ) → length (tabulate f n) ≡ n
  unfolding tabulate
  length-tabulate f zero = refl
  length-tabulate f (suc n) = ap suc (length-tabulate (λ i. f (suc i)) n)

  pub get_or-tabulate : (f : ℕ → A) (n i : ℕ) (z : A) → i < n → get_or (tabulate f n) i z ≡ f i
  unfolding tabulate
  get_or-tabulate f zero i z h = absurd (not-suc-le-zero h)
  get_or-tabulate f (suc n) zero z h = refl
  get_or-tabulate f (suc n) (suc i) z h = get_or-tabulate (λ k. f (suc k)) n i z (le_of_suc-le-suc h)

  pub tabulate_ext : (f g : ℕ → A) (n : ℕ) → ((i : ℕ) → i < n → f i ≡ g i) → tabulate f n ≡ tabulate g n
  unfolding tabulate
  tabulate_ext f g zero h = refl
  tabulate_ext f g (suc n) h =
      ap₂ {C = List A} (λ x l. x ∷ l) (h 0 (omega arith)) (tabulate_ext (λ i. f (suc i)) (λ i. g (suc i)) n (λ i k. h (suc i) (omega arith)))

  pub tabulate-map : {B : Type 0} (f : B → A) (z : B) (xs : List B) → tabulate (λ i. f (get_or xs i z)) (length xs) ≡ map f xs
  unfolding tabulate
  tabulate-map f z [] = refl
  tabulate-map f z (x ∷ xs) = ap {B = List A} (λ l. f x ∷ l) (tabulate-map f z xs)

  pub get_or-map_at : {B : Type 0} (f : B → A) (xs : List B) (i : ℕ) (y : A) (z : B) → i < length xs → get_or (map f xs) i y ≡ f (get_or xs i z)
  get_or-map_at f [] i y z h = absurd (not-suc-le-zero h)
  get_or-map_at f (x ∷ xs) zero y z h = refl
  get_or-map_at f (x ∷ xs) (suc i) y z h = get_or-map_at f xs i y z (le_of_suc-le-suc h)

  pub take-map : {B : Type 0} (f : B → A) (xs : List B) (i : ℕ) → take i (map f xs) ≡ map f (take i xs)
  take-map f xs zero = refl
  take-map f [] (suc i) = refl
  take-map f (x ∷ xs) (suc i) = ap {B = List A} (λ l. f x ∷ l) (take-map f xs i)

  pub drop-map : {B : Type 0} (f : B → A) (xs : List B) (i : ℕ) → drop i (map f xs) ≡ map f (drop i xs)
  drop-map f xs zero = refl
  drop-map f [] (suc i) = refl
  drop-map f (x ∷ xs) (suc i) = drop-map f xs i

pub sum-tabulate : (f g : ℕ → ℕ) (n : ℕ) → sum (tabulate (λ i. f i + g i) n) ≡ sum (tabulate f n) + sum (tabulate g n)
unfolding tabulate sum
sum-tabulate f g zero = refl
sum-tabulate f g (suc n) = omega (arith, sum-tabulate (λ i. f (suc i)) (λ i. g (suc i)) n)

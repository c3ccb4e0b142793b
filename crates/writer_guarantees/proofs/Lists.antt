-- What holds of every element of a list or of every byte, and lists given place by place. Assumes nothing.
use mathlib.Core.Path.{◌≡◌, refl, ◌∙◌}
use mathlib.Core.Bool.{Bool, true}
use mathlib.Core.List.{List, [], ◌∷◌, ◌++◌, map, map-id}
use Prim.Native.Nat.{ℕ, zero, suc, ◌≤◌, ◌<◌}
use native.Mathlib.Omega.{arith}
use lib.ListN.{length, get_or, replicate}
use Rattle.integers.specs.Lists.{every, tabulate}
use Rattle.integers.proofs.Tests.{both_true}
use Rattle.integers.proofs.Counts.{tabulate-map}

-- every element has the property
abbrev pub All : {A : Type 0} → (A → Type 0) → List A → Type 0
All P [] = Unit {0}
All P (x ∷ xs) = P x × All P xs

-- every byte is above m
abbrev pub Above : ℕ → List ℕ → Type 0
Above m = All (λ x. m < x)

-- and above what is less
pub above-less : (m n : ℕ) → m ≤ n → (f : List ℕ) → Above n f → Above m f
above-less m n h [] a = tt
above-less m n h (x ∷ f) a = (omega (arith, a.0), above-less m n h f a.1)

module _ {A : Type 0} where
  -- two lists, one after the other
  pub all_append : (P : A → Type 0) (xs ys : List A) → All P xs → All P ys → All P (xs ++ ys)
  all_append P [] ys a b = b
  all_append P (x ∷ xs) ys a b = (a.0, all_append P xs ys a.1 b)

  -- a list given place by place
  pub all_tabulate : (P : A → Type 0) (f : ℕ → A) (n : ℕ) → ((i : ℕ) → i < n → P (f i)) → All P (tabulate f n)
  unfolding tabulate
  all_tabulate P f zero h = tt
  all_tabulate P f (suc n) h = (h 0 (omega arith), all_tabulate P (λ i. f (suc i)) n (λ i k. h (suc i) (omega arith)))

  -- a test that holds of each image
  pub all_every : {B : Type 0} (P : A → Type 0) (g : A → B) (p : B → Bool) → ((x : A) → P x → p (g x) ≡ true)
      → (xs : List A) → All P xs → every p (map g xs) ≡ true
  unfolding every
  all_every P g p f [] a = refl
  all_every P g p f (x ∷ xs) a = both_true (f x a.0) (all_every P g p f xs a.1)

  -- the image of a list given place by place
  pub map-tabulate : {B : Type 0} (g : A → B) (f : ℕ → A) (n : ℕ) → map g (tabulate f n) ≡ tabulate (λ i. g (f i)) n
  unfolding tabulate
  map-tabulate g f zero = refl
  map-tabulate g f (suc n) = rw (map-tabulate g (λ i. f (suc i)) n)

  -- one element at every place
  pub tabulate-same : (x : A) (n : ℕ) → tabulate (λ i. x) n ≡ replicate n x
  unfolding tabulate
  tabulate-same x zero = refl
  tabulate-same x (suc n) = rw (tabulate-same x n)

  -- a list by its own elements
  pub tabulate_own : (z : A) (xs : List A) → tabulate (λ i. get_or xs i z) (length xs) ≡ xs
  tabulate_own z xs = tabulate-map (λ x. x) z xs ∙ map-id xs

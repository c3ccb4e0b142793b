-- Functions on lists: sums, tests of every element, and lists given place by place. Assumes nothing.
use Rattle.std.specs.Prelude.{Bool, true, false, ◌&&◌, List, [], ◌∷◌, ℕ, zero, suc, ◌+◌, ◌≤◌, ℤ, pos, nat_abs, ◌+ℤ◌, get_or}

-- the sum of a list of naturals
unfoldable pub sum : List ℕ → ℕ
sum [] = 0
sum (x ∷ xs) = x + sum xs

-- the sum of a list of integers
unfoldable pub sum_ℤ : List ℤ → ℤ
sum_ℤ [] = pos 0
sum_ℤ (x ∷ xs) = x +ℤ sum_ℤ xs

-- every element passes the test
unfoldable pub every : {A : Type 0} → (A → Bool) → List A → Bool
every p [] = true
every p (x ∷ xs) = p x && every p xs

-- a test as a number
abbrev pub bit : Bool → ℕ
bit true = 1
bit false = 0

-- how many elements pass the test
unfoldable pub count : {A : Type 0} → (A → Bool) → List A → ℕ
count p [] = 0
count p (x ∷ xs) = bit (p x) + count p xs

-- f 0, f 1, .. as far as f (n - 1)
unfoldable pub tabulate : {A : Type 0} → (ℕ → A) → ℕ → List A
tabulate f zero = []
tabulate f (suc n) = f 0 ∷ tabulate (λ i. f (suc i)) n

-- every element is at most n in size
pub record AtMost (n : ℕ) (xs : List ℤ) : Type 0 where
  pub at : (i : ℕ) → nat_abs (get_or xs i (pos 0)) ≤ n

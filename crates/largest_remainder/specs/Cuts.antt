-- A cut of the remainders, by which the first so many of them are told without sorting: the arguments and the code go by it. A reader who believes the rule need not believe this.
-- Assumes nothing.
use Rattle.std.specs.Prelude.{◌≡◌, Bool, ◌&&◌, ◌||◌, List, ℕ, ◌+◌, ◌≤◌, ltb, eqb, get_or, take}
use Rattle.integers.specs.Lists.{count}

-- how many remainders are above a number, and how many are it
abbrev pub above : List ℕ → ℕ → ℕ
above rs at = count (λ r. ltb at r) rs

abbrev pub same : List ℕ → ℕ → ℕ
same rs at = count (λ r. eqb at r) rs

-- A cut of n: the remainders above `at`, and the first `ties` of those that are `at`, are n.
pub record IsCut (rs : List ℕ) (n at ties : ℕ) : Type 0 where
  pub adds : above rs at + ties ≡ n
  pub fits : ties ≤ same rs at

-- whether a cut takes the remainder at a place
abbrev pub taken : List ℕ → ℕ → ℕ → ℕ → Bool
taken rs at ties place = ltb at (get_or rs place 0) || eqb at (get_or rs place 0) && ltb (same (take place rs) at) ties

-- The steps by which the code finds the settled sizes, as its private contracts state them. A reader who believes the rule need not believe these. Assumes nothing.
use Rattle.std.specs.Prelude.{◌≡◌, ◌&&◌, List, map, ℕ, ◌+◌, ◌≤◌, ◌<◌, ltb, eqb, ℤ, pos, nat_abs, length, get_or, take, replicate}
use Rattle.integers.specs.Lists.{bit, sum, tabulate}
use Rattle.largest_remainder.specs.Rule.{whole, fraction, settled}
use Rattle.largest_remainder.specs.Cuts.{above, same}
use Rattle.rules.specs.Limits.{users_most, position_most, market_most}

-- what the code asks of the sizes and the total: the sizes are those of positions, so that their sum is at most that of a market
pub record Input (sizes : List ℕ) (total : ℕ) : Type 0 where
  pub users : length sizes ≤ users_most
  pub small : (place : ℕ) → get_or sizes place 0 ≤ position_most
  pub some : 0 < sum sizes
  pub within : total ≤ sum sizes

-- what it leaves: the settled sizes, and the lent sizes all zero
pub record Apportioned (sizes : List ℕ) (total : ℕ) (sizes' : List ℕ) (out : List ℤ) : Type 0 where
  pub shares : out ≡ map pos (settled sizes total)
  pub cleared : sizes' ≡ replicate (length sizes) 0

-- the first `ties` of the remainders that are `at`, larger by one
unfoldable pub ties_broken : List ℕ → ℕ → ℕ → List ℕ
ties_broken rs at ties = tabulate (λ place. get_or rs place 0 + bit (eqb at (get_or rs place 0) && ltb (same (take place rs) at) ties)) (length rs)

-- numbers that stay within the bound of the sums
pub record Bounded (rs : List ℕ) : Type 0 where
  pub at : (place : ℕ) → get_or rs place 0 ≤ market_most

-- a cut of n lies between `low` and `top`
pub record CutAsks (rs : List ℕ) (n low top : ℕ) : Type 0 where
  pub bounded : Bounded rs
  pub enough : n ≤ above rs low
  pub none : above rs top ≡ 0
  pub small : top ≤ market_most

-- what handing out n units asks: that so many remainders are above `at`
pub record HandAsks (rs : List ℕ) (at n : ℕ) (old : List ℤ) : Type 0 where
  pub long : length rs ≡ length old
  pub small : (place : ℕ) → nat_abs (get_or old place (pos 0)) ≤ market_most
  pub units : above rs at ≡ n

-- what the pass over the sizes leaves: the remainders, the whole units and their sum, and a number below and one above all remainders but 0
pub record Shared (sizes : List ℕ) (total : ℕ) (rs : List ℕ) (out : List ℤ) (given low top : ℕ) : Type 0 where
  pub fractions : rs ≡ map (fraction sizes total) sizes
  pub wholes : out ≡ map pos (map (whole sizes total) sizes)
  pub sum : given ≡ sum (map (whole sizes total) sizes)
  pub enough : above rs 0 ≤ above rs low
  pub none : above rs top ≡ 0
  pub small : top ≤ market_most

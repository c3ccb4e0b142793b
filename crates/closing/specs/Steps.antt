-- What the closing of a zone asks and leaves, as its contracts state it. A reader who believes the rules need not believe these. Assumes nothing.
use Rattle.std.specs.Prelude.{◌≡◌, true, List, ℕ, ◌≤◌, ℤ, pos, length, take, replicate}
use Rattle.integers.specs.Lists.{every}
use Rattle.rules.specs.declared.ClosingTerms.{ClosingTerms}
use Rattle.rules.specs.declared.Outputs.{Outputs}
use Rattle.rules.specs.Limits.{users_most, position_fit}
use Rattle.rules.specs.Hours.{Same}
use Rattle.rules.specs.Days.{part, with_part}
use Rattle.rules.specs.Market.{moneys}
use Rattle.rules.specs.Causes.{prices_fit}

-- of a zone's part p, with a place for each user
pub record Asks (p : List ℤ) (k : ClosingTerms) (o : Outputs) : Type 0 where
  pub few : length o.quantity.now ≤ users_most
  pub room : length o.quantity.now ≤ length p
  pub moneys : length o.money.now ≡ length o.quantity.now
  pub positions : every position_fit p ≡ true
  pub prices : prices_fit k.excess_price k.shortfall_price ≡ true

-- of n users at the first places of the part p
pub record Leaves (n : ℕ) (p : List ℤ) (k : ClosingTerms) (o o' : Outputs) : Type 0 where
  pub same : Same o o'
  pub quantity : o'.quantity.now ≡ take n p
  pub money : o'.money.now ≡ moneys k.excess_price k.shortfall_price (take n p)

pub record PartLeaves (n : ℕ) (p p' : List ℤ) (k : ClosingTerms) (o o' : Outputs) : Type 0 where
  pub lists : Leaves n p k o o'
  pub places : p' ≡ replicate (length p) (pos 0)

pub record TableAsks (tb : List ℤ) (k : ClosingTerms) (o : Outputs) : Type 0 where
  pub long : length tb ≡ 256
  pub lists : Asks (part k.zone tb) k o

pub record TableLeaves (n : ℕ) (tb tb' : List ℤ) (k : ClosingTerms) (o o' : Outputs) : Type 0 where
  pub lists : Leaves n (part k.zone tb) k o o'
  pub table : tb' ≡ with_part k.zone (λ p. replicate 128 (pos 0)) tb

-- What the settlement of one side asks and leaves, as its contracts state it. A reader who believes the rules need not believe these. Assumes nothing.
use Rattle.std.specs.Prelude.{◌≡◌, Bool, true, false, cond, ℕ, ℤ, neg_ℤ, ◌-ℤ◌, ◌*ℤ◌, length, replicate}
use mathlib.Core.List.{List, map, zip_with}
use Rattle.integers.specs.Lists.{every}
use Rattle.apportionment.specs.Steps.{Input}
use Rattle.rules.specs.declared.HourTerms.{HourTerms}
use Rattle.rules.specs.declared.Marks.{Marks}
use Rattle.rules.specs.declared.Outputs.{Outputs}
use Rattle.rules.specs.Limits.{position_fit}
use Rattle.rules.specs.Hours.{Same}
use Rattle.rules.specs.Market.{Imbalance, excess, shortfall, sizes, quantities, after, moneys, marks, causers}
use Rattle.rules.specs.Causes.{terms_fit}

-- `up` is an excess, else a shortfall, which goes by negation
unfoldable pub side : Bool → ℕ → Imbalance
side true n = excess n
side false n = shortfall n

unfoldable pub turn : Bool → ℤ → ℤ
turn true x = x
turn false x = neg_ℤ x

-- the price of a side
unfoldable pub price_on : Bool → HourTerms → ℤ
price_on up k = cond up k.excess_price k.shortfall_price

-- the pass that gives the settled sizes their sign, and books money and positions after
pub record Booked (up : Bool) (price : ℤ) (ps ps' ns q' m' : List ℤ) : Type 0 where
  pub quantity : q' ≡ map (turn up) ns
  pub money : m' ≡ map (λ n. turn up n *ℤ price) ns
  pub positions : ps' ≡ zip_with (λ p n. p -ℤ turn up n) ps ns

pub record SideAsks (up : Bool) (n : ℕ) (ps : List ℤ) (k : HourTerms) (o : Outputs) (s : List ℕ) : Type 0 where
  pub input : Input (sizes (side up n) ps) n
  pub positions : every position_fit ps ≡ true
  pub terms : terms_fit k ≡ true
  pub quantities : length o.quantity.now ≡ length ps
  pub moneys : length o.money.now ≡ length ps
  pub scratches : length s ≡ length ps

pub record SideLeaves (up : Bool) (n : ℕ) (ps ps' : List ℤ) (k : HourTerms) (o o' : Outputs) (s s' : List ℕ) (r : Marks) : Type 0 where
  pub same : Same o o'
  pub places : ps' ≡ after (side up n) ps
  pub quantity : o'.quantity.now ≡ quantities (side up n) ps
  pub money : o'.money.now ≡ moneys k.excess_price k.shortfall_price (quantities (side up n) ps)
  pub scratch : s' ≡ replicate (length s) 0
  pub marked : r ≡ marks (causers (side up n) ps)

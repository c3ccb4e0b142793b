-- What the settlement of a zone asks and leaves, step by step, as its contracts state it. A reader who believes the rules need not believe these. Assumes nothing.
use Rattle.std.specs.Prelude.{◌≡◌, true, List, ℕ, ℤ, length, replicate}
use Rattle.integers.specs.Lists.{sum_ℤ, every}
use Rattle.rules.specs.declared.Amounts.{Amounts}
use Rattle.rules.specs.declared.HourTerms.{HourTerms}
use Rattle.rules.specs.declared.Outcome.{Outcome}
use Rattle.rules.specs.declared.Outputs.{Outputs}
use Rattle.rules.specs.Limits.{position_fit}
use Rattle.rules.specs.Hours.{Same}
use Rattle.rules.specs.Days.{part, with_part, onto}
use Rattle.rules.specs.Market.{imbalance, quantities, after, moneys, outcome}
use Rattle.rules.specs.Causes.{terms_fit}
use Rattle.positions.specs.Before.{befores, InRange}

-- with the market position m
pub record Asks (p : List ℤ) (a : Amounts) (k : HourTerms) (m : ℤ) (o : Outputs) (s : List ℕ) : Type 0 where
  pub amounts : InRange p a
  pub positions : every position_fit (befores p a) ≡ true
  pub market : m ≡ sum_ℤ (befores p a)
  pub terms : terms_fit k ≡ true
  pub quantities : length o.quantity.now ≡ length a.entries.now
  pub moneys : length o.money.now ≡ length a.entries.now
  pub scratches : length s ≡ length a.entries.now

-- of the lists, by the positions before
pub record Leaves (ps : List ℤ) (k : HourTerms) (o o' : Outputs) (s s' : List ℕ) (r : Outcome) : Type 0 where
  pub same : Same o o'
  pub quantity : o'.quantity.now ≡ quantities (imbalance k.upper k.lower ps) ps
  pub money : o'.money.now ≡ moneys k.excess_price k.shortfall_price (quantities (imbalance k.upper k.lower ps) ps)
  pub scratch : s' ≡ replicate (length s) 0
  pub answer : r ≡ outcome (imbalance k.upper k.lower ps) ps

-- the positions after
abbrev pub afters : HourTerms → List ℤ → List ℤ
afters k ps = after (imbalance k.upper k.lower ps) ps

pub record UsersLeave (p p' : List ℤ) (a : Amounts) (k : HourTerms) (o o' : Outputs) (s s' : List ℕ) (r : Outcome) : Type 0 where
  pub lists : Leaves (befores p a) k o o' s s' r
  pub places : p' ≡ afters k (befores p a)

pub record ZoneLeaves (p p' : List ℤ) (a : Amounts) (k : HourTerms) (o o' : Outputs) (s s' : List ℕ) (r : Outcome) : Type 0 where
  pub lists : Leaves (befores p a) k o o' s s' r
  pub places : p' ≡ onto (afters k (befores p a)) p

pub record TableAsks (tb : List ℤ) (a : Amounts) (k : HourTerms) (m : ℤ) (o : Outputs) (s : List ℕ) : Type 0 where
  pub long : length tb ≡ 256
  pub lists : Asks (part k.zone tb) a k m o s

pub record TableLeaves (tb tb' : List ℤ) (a : Amounts) (k : HourTerms) (o o' : Outputs) (s s' : List ℕ) (r : Outcome) : Type 0 where
  pub lists : Leaves (befores (part k.zone tb) a) k o o' s s' r
  pub table : tb' ≡ with_part k.zone (onto (afters k (befores (part k.zone tb) a))) tb

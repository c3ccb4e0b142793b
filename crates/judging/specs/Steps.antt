-- What the judge's functions count on. Who believes the rules need not believe these: the public contract cites none of them. Assumes nothing.
use Rattle.std.specs.Prelude.{◌≡◌, true, List, Result, ◌≤◌, ℤ, length}
use Rattle.integers.specs.Lists.{sum, sum_ℤ}
use Rattle.rules.specs.declared.Amounts.{Amounts}
use Rattle.rules.specs.declared.Cause.{Cause}
use Rattle.rules.specs.declared.HourTerms.{HourTerms}
use Rattle.rules.specs.Days.{part}
use Rattle.rules.specs.Market.{Imbalance, imbalance, total, sizes}
use Rattle.rules.specs.Causes.{terms_fit}
use Rattle.rules.specs.Judging.{quantities_cause}
use Rattle.positions.specs.Before.{befores, Fit}

-- what causes 22 to 24 count on, of the imbalance i that was found: a quantity of each user, and a total within the causers' sizes
pub record Found (i : Imbalance) (p : List ℤ) (a : Amounts) (qs : List ℤ) : Type 0 where
  pub fit : Fit p a
  pub enough : total i ≤ sum (sizes i (befores p a))
  pub long : length qs ≡ length a.entries.now

-- and before it is found, of a part of a table: terms in range, and the market position m
pub record Asked (p : List ℤ) (a : Amounts) (k : HourTerms) (m : ℤ) (qs : List ℤ) : Type 0 where
  pub fit : Fit p a
  pub terms : terms_fit k ≡ true
  pub market : m ≡ sum_ℤ (befores p a)
  pub long : length qs ≡ length a.entries.now

-- of the zone's part of a table
pub record AskedTable (t : List ℤ) (a : Amounts) (k : HourTerms) (m : ℤ) (qs : List ℤ) : Type 0 where
  pub long : length t ≡ 256
  pub asked : Asked (part k.zone t) a k m qs

-- causes 22 to 24, by the positions before
abbrev pub asked_cause : List ℤ → Amounts → HourTerms → List ℤ → Result Unit Cause
asked_cause p a k qs = quantities_cause (imbalance k.upper k.lower (befores p a)) (befores p a) qs

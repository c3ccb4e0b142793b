-- Causes 9 to 11 over a part, and what they count on. Who believes the rules need not believe these: no public contract cites them. Assumes nothing.
use Rattle.std.specs.Prelude.{◌≡◌, List, Result, ℤ, length}
use Rattle.integers.specs.Ranges.{is_zero}
use Rattle.integers.specs.Lists.{sum_ℤ, every}
use Rattle.rules.specs.declared.Amounts.{Amounts}
use Rattle.rules.specs.declared.Cause.{Cause}
use Rattle.rules.specs.declared.Cause.TheVariants as cause
use Rattle.rules.specs.Limits.{position_fit}
use Rattle.rules.specs.Days.{part}
use Rattle.rules.specs.Refusals.{unless, ◌then◌}
use Rattle.positions.specs.Before.{all_fit, befores, Lent}

unfoldable pub amounts_cause : List ℤ → Amounts → Result Unit Cause
amounts_cause p a =
    unless (all_fit a) cause.Amounts
    then unless (is_zero (sum_ℤ a.poolings.now)) cause.Pooling
    then unless (every position_fit (befores p a)) cause.Positions

-- what they count on, of a zone's part of a table
pub record LentTable (zone : ℤ) (tb : List ℤ) (a : Amounts) : Type 0 where
  pub long : length tb ≡ 256
  pub lent : Lent (part zone tb) a

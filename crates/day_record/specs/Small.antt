-- What the calls count on when they add to a record that fits: its numbers are small, and so is what one call sells or buys. Who believes the rules need not believe these: no public contract
-- cites them. Assumes nothing.
use Rattle.std.specs.Prelude.{◌≤◌, nat_abs}
use Rattle.rules.specs.declared.Sums.{Sums}
use Rattle.rules.specs.declared.ZoneDay.{ZoneDay}
use Rattle.rules.specs.Limits.{length_most, market_most, total_most}

-- no more than all users' positions
pub record SumsSmall (s : Sums) : Type 0 where
  pub sold : nat_abs s.sold ≤ market_most
  pub bought : nat_abs s.bought ≤ market_most

pub record PartSmall (z : ZoneDay) : Type 0 where
  pub hours : nat_abs z.hours ≤ length_most
  pub sold : nat_abs z.sold ≤ total_most
  pub bought : nat_abs z.bought ≤ total_most

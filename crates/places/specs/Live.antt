-- Cause 7 by its live places: those of a zone that may be other than zero. Who believes the rules need not believe these: the contract of the test cites
-- none of them. Assumes nothing.
use Rattle.std.specs.Prelude.{◌≡◌, Bool, cond, ◌&&◌, ◌||◌, List, ℕ, ◌≤◌, ℤ, length, drop}
use Rattle.integers.specs.Ranges.{is_zero}
use Rattle.integers.specs.Lists.{every}
use Rattle.rules.specs.declared.Day.{Day}
use Rattle.rules.specs.Limits.{users_most, position_fit}
use Rattle.rules.specs.Days.{users, hours_done, is_closed}

-- how many places of a zone may be other than zero
unfoldable pub live_places : ℤ → Day → ℕ
live_places zone d = cond (is_closed zone d || is_zero (hours_done zone d)) 0 (users d)

-- a part of which so many places are live
unfoldable pub part_fit : ℕ → List ℤ → Bool
part_fit live p = every position_fit p && every is_zero (drop live p)

-- a table of all its places, and no more users than a part has places
pub record Tabled (d : Day) (t : List ℤ) : Type 0 where
  pub few : users d ≤ users_most
  pub long : length t ≡ 256

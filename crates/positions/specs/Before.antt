-- The positions before settlement of the users at the first places of a part, and what the calls have to know of the lists that they are made of. Assumes nothing.
use Rattle.std.specs.Prelude.{◌≡◌, Bool, true, ◌&&◌, List, ℕ, ◌≤◌, ℤ, pos, ◌+ℤ◌, length, get_or}
use Rattle.integers.specs.Lists.{every, tabulate}
use Rattle.rules.specs.declared.Amounts.{Amounts}
use Rattle.rules.specs.Limits.{users_most, entry_fit, exit_fit, title_fit, pooling_fit, position_fit}

-- a user's entry, exit, title and pooling amounts together
unfoldable pub amounts_at : Amounts → ℕ → ℤ
amounts_at a user =
    get_or a.entries.now user (pos 0) +ℤ get_or a.exits.now user (pos 0) +ℤ get_or a.titles.now user (pos 0) +ℤ get_or a.poolings.now user (pos 0)

-- of one user: its place in the part p, and its amounts
unfoldable pub before_at : List ℤ → Amounts → ℕ → ℤ
before_at p a user = get_or p user (pos 0) +ℤ amounts_at a user

-- of all users, of whom there are as many as entries
unfoldable pub befores : List ℤ → Amounts → List ℤ
befores p a = tabulate (before_at p a) (length a.entries.now)

-- every amount in its range
unfoldable pub all_fit : Amounts → Bool
all_fit a =
    every entry_fit a.entries.now
    && (every exit_fit a.exits.now && (every title_fit a.titles.now && every pooling_fit a.poolings.now))

-- lists of one length
pub record OneLength (a : Amounts) : Type 0 where
  pub exits : length a.exits.now ≡ length a.entries.now
  pub titles : length a.titles.now ≡ length a.entries.now
  pub poolings : length a.poolings.now ≡ length a.entries.now

-- such lists, of no more users than a day has, and a part that is in range and has a place for each user
pub record Lent (p : List ℤ) (a : Amounts) : Type 0 where
  pub lists : OneLength a
  pub few : length a.entries.now ≤ users_most
  pub room : length a.entries.now ≤ length p
  pub positions : every position_fit p ≡ true

-- the same, with every amount in its range: their sums are small
pub record InRange (p : List ℤ) (a : Amounts) : Type 0 where
  pub lent : Lent p a
  pub fit : all_fit a ≡ true

-- and with every position before in its range
pub record Fit (p : List ℤ) (a : Amounts) : Type 0 where
  pub range : InRange p a
  pub positions : every position_fit (befores p a) ≡ true

-- Rule 4 of document 01, the largest remainder rule, over naturals: a total is shared by size in whole units. A user of size 0 did not cause. Assumes nothing.
use Rattle.std.specs.Prelude.{Bool, ◌&&◌, List, map, ℕ, ◌+◌, ◌-◌, ◌*◌, ◌/◌, ◌%◌, length, take}
use Rattle.std.proofs.Math.Dec.{ltb, eqb}
use Rattle.std.proofs.Math.ListN.{get_or}
use Rattle.integers.specs.Lists.{sum, bit, count, tabulate}

-- whether a user of this size is a causer
abbrev pub causer : ℕ → Bool
causer size = ltb 0 size

module _ (sizes : List ℕ) (total : ℕ) where
  -- "A causer's exact share is the excess (or shortfall) times the size of its position, divided by the sum of all causers' sizes."
  -- "Each gets the share rounded down."
  unfoldable pub whole : ℕ → ℕ
  unfolding sum
  whole size = total * size / sum sizes

  -- "fractions compare as the remainders of that division"
  unfoldable pub fraction : ℕ → ℕ
  unfolding sum
  fraction size = total * size % sum sizes

  -- "The kWh then left over"
  unfoldable pub spare : ℕ
  unfolding whole sum
  spare = total - sum (map whole sizes)

  -- how many causers come before the user at a place: "the largest fractions; among equal fractions, the lower place first"
  unfoldable pub rank : ℕ → ℕ
  unfolding fraction count
  rank place =
      let own = fraction (get_or sizes place 0) in
      count (λ size. causer size && ltb own (fraction size)) sizes + count (λ size. causer size && eqb own (fraction size)) (take place sizes)

  -- "go one each to the causers": to one before whom fewer causers come than there are spare units
  unfoldable pub settled_at : ℕ → ℕ
  unfolding whole rank spare
  settled_at place =
      let size = get_or sizes place 0 in
      whole size + bit (causer size && ltb (rank place) spare)

  -- the settled sizes, one for each user
  unfoldable pub settled : List ℕ
  unfolding settled_at tabulate
  settled = tabulate settled_at (length sizes)

-- What is proved of the rule, for every list of sizes and every total; the proofs are in proofs/Guarantees.antt. Assumes nothing.
use Rattle.std.specs.Prelude.{◌≡◌, List, ℕ, ◌+◌, ◌*◌, ◌≤◌, ◌<◌, length, get_or}
use Rattle.integers.specs.Lists.{sum}
use Rattle.largest_remainder.specs.Rule.{settled}

-- the settled sizes add to the total
abbrev pub AddsUp : Type 0
AddsUp = (sizes : List ℕ) (total : ℕ) → 0 < sum sizes → sum (settled sizes total) ≡ total

-- a settled size is less than 1 from the exact share: "that size times the sum differs from the product by less than the sum"
abbrev pub Accurate : Type 0
Accurate =
    (sizes : List ℕ) (total : ℕ) → 0 < sum sizes → (place : ℕ) → place < length sizes
    → (get_or (settled sizes total) place 0 * sum sizes < total * get_or sizes place 0 + sum sizes)
    × (total * get_or sizes place 0 < get_or (settled sizes total) place 0 * sum sizes + sum sizes)

-- no user is settled for more than its size, where the total is no more than the sum; so who has size 0 is settled for 0
abbrev pub NoMoreThanSize : Type 0
NoMoreThanSize =
    (sizes : List ℕ) (total : ℕ) → 0 < sum sizes → total ≤ sum sizes → (place : ℕ) → get_or (settled sizes total) place 0 ≤ get_or sizes place 0

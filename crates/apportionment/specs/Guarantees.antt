-- What is proved of the pass that hands out the spare units; the proof is in proofs/Guarantees.antt. Assumes nothing.
use Rattle.std.specs.Prelude.{◌≡◌, true, false, List, ℕ, suc, ◌≤◌, ◌<◌, ℤ, length}
use Rattle.largest_remainder.specs.Cuts.{above}
use Rattle.apportionment.specs.Pass.{raised_by, got, visited}

-- a pass that had n units to hand out, and the number of users that it went to
pub record Ended (n : ℕ) (before after : List ℤ) (number : ℕ) : Type 0 where
  -- "none if nothing is spare"
  pub none : n ≡ 0 → number ≡ 0
  -- "and else to end with one that got a kWh"
  pub last : 0 < n → (place : ℕ) × ((number ≡ suc place) × (got before after place ≡ true))
  -- and nobody from there on got one
  pub rest : (place : ℕ) → number ≤ place → got before after place ≡ false

-- whatever `hand_out` is given and leaves, by its contract: so many remainders as units are spare are above `at`, and its number is `visited`
abbrev pub EndsWithTheLast : Type 0
EndsWithTheLast =
    (remainders : List ℕ) (at spare : ℕ) (before : List ℤ) → length remainders ≡ length before → above remainders at ≡ spare
    → (let after = raised_by remainders at before in
    Ended spare before after (visited before after))

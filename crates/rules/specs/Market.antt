-- Rules 2 to 6: what is settled of the positions before settlement; the causers' marks; what is sold and bought by a list of quantities; and these things of an hour and of a closing. Assumes
-- nothing.
use Rattle.std.specs.Prelude.{Bool, false, cond, ℕ, ◌+◌, ◌*◌, ℤ, pos, nat_abs, neg_ℤ, ◌-ℤ◌, ◌*ℤ◌, take, drop}
use mathlib.Core.List.{List, [], ◌∷◌, map, zip_with}
use Rattle.std.specs.Int.Count.{ones_in}
use Rattle.std.specs.Int.Signed.{lt_z}
use Rattle.integers.specs.Lists.{sum_ℤ, bit}
use Rattle.largest_remainder.specs.Rule.{settled}
use Rattle.rules.specs.declared.Day.{Day}
use Rattle.rules.specs.declared.Marks.{Marks}
use Rattle.rules.specs.declared.Sums.{Sums}
use Rattle.rules.specs.declared.Side.TheVariants.{Excess, Shortfall}
use Rattle.rules.specs.declared.Outcome.{Outcome}
use Rattle.rules.specs.declared.Outcome.TheVariants.{Within, Settled}
use Rattle.rules.specs.Hours.{Hour, Closing, before, standing}

-- ---- rule 2

-- the market position against its thresholds: within them, or an excess or a shortfall and its total
pub data Imbalance : Type 0 where
  within : Imbalance
  excess : ℕ → Imbalance
  shortfall : ℕ → Imbalance

-- "Above the upper threshold there is an excess: the difference. Below the lower one there is a shortfall: the difference, taken positive. At a threshold there is neither."
unfoldable pub imbalance_of : ℤ → ℤ → ℤ → Imbalance
imbalance_of upper lower market =
    cond (lt_z upper market) (excess (nat_abs (market -ℤ upper)))
    (cond (lt_z market lower) (shortfall (nat_abs (lower -ℤ market))) within)

-- "The market position is the sum over all users."
unfoldable pub imbalance : ℤ → ℤ → List ℤ → Imbalance
imbalance upper lower positions = imbalance_of upper lower (sum_ℤ positions)

unfoldable pub total : Imbalance → ℕ
total within = 0
total (excess n) = n
total (shortfall n) = n

-- ---- rule 3: "In an excess the causing users are those with a position above zero; in a shortfall, those below zero."
unfoldable pub caused : Imbalance → ℤ → Bool
caused within position = false
caused (excess n) position = lt_z (pos 0) position
caused (shortfall n) position = lt_z position (pos 0)

-- ---- rule 4: the size of a causer's position, and 0 for the others; and the settled sizes
unfoldable pub size : Imbalance → ℤ → ℕ
size i position = cond (caused i position) (nat_abs position) 0

unfoldable pub sizes : Imbalance → List ℤ → List ℕ
sizes i positions = map (size i) positions

unfoldable pub settled_sizes : Imbalance → List ℤ → List ℕ
settled_sizes i positions = settled (sizes i positions) (total i)

-- ---- rule 5: "The quantity is positive when the user sells (excess) and negative when the user buys (shortfall). Others have quantity 0."
unfoldable pub signed : Imbalance → ℕ → ℤ
signed within n = pos 0
signed (excess _) n = pos n
signed (shortfall _) n = neg_ℤ (pos n)

unfoldable pub quantities : Imbalance → List ℤ → List ℤ
quantities i positions = map (signed i) (settled_sizes i positions)

-- "The position after is the position before minus the quantity."
unfoldable pub after : Imbalance → List ℤ → List ℤ
after i positions = zip_with ◌-ℤ◌ positions (quantities i positions)

-- ---- rule 6: "Money is quantity times the hour's excess price if the quantity is positive, else times its shortfall price."
unfoldable pub money_of : ℤ → ℤ → ℤ → ℤ
money_of excess_price shortfall_price quantity = quantity *ℤ cond (lt_z (pos 0) quantity) excess_price shortfall_price

unfoldable pub moneys : ℤ → ℤ → List ℤ → List ℤ
moneys excess_price shortfall_price qs = map (money_of excess_price shortfall_price) qs

-- ---- the outcome: "either that the market was within its thresholds, or that it was settled, and then which side, its total, and the causers"

-- "A causer whose quantity is 0 is still marked": the marks go by rule 3
unfoldable pub causers : Imbalance → List ℤ → List Bool
causers i positions = map (caused i) positions

-- a word of marks, the first at the lowest bit
unfoldable pub word : List Bool → ℕ
word [] = 0
word (b ∷ bs) = bit b + 2 * word bs

-- "two 64-bit words, place 0 at the lowest bit of the first, and the number of marks": the sum of their counts of ones
unfoldable pub marks : List Bool → Marks
marks bs =
    let first = word (take 64 bs) in
    let second = word (take 64 (drop 64 bs)) in
    record { first = first; second = second; number = ones_in 64 first + ones_in 64 second }

unfoldable pub outcome : Imbalance → List ℤ → Outcome
outcome within positions = Within
outcome (excess n) positions = Settled (Excess (pos n)) (marks (causers (excess n) positions))
outcome (shortfall n) positions = Settled (Shortfall (pos n)) (marks (causers (shortfall n) positions))

-- ---- "two sums, sold and bought, in kWh and both as sizes": of the positive quantities of a list, and of the negative ones
unfoldable pub sold_of : ℤ → ℤ
sold_of q = cond (lt_z (pos 0) q) q (pos 0)

unfoldable pub bought_of : ℤ → ℤ
bought_of q = cond (lt_z q (pos 0)) (neg_ℤ q) (pos 0)

unfoldable pub sold : List ℤ → ℤ
sold qs = sum_ℤ (map sold_of qs)

unfoldable pub bought : List ℤ → ℤ
bought qs = sum_ℤ (map bought_of qs)

abbrev pub sums : List ℤ → Sums
sums qs = record { sold = sold qs; bought = bought qs }

-- ---- of an hour, and of a closing: "Each user's quantity is its whole position"
module _ (d : Day) (t : List ℤ) where
  unfoldable pub hour_imbalance : Hour → Imbalance
  hour_imbalance g = imbalance g.terms.upper g.terms.lower (before d t g)

  abbrev pub hour_quantities : Hour → List ℤ
  hour_quantities g = quantities (hour_imbalance g) (before d t g)

  unfoldable pub hour_sums : Hour → Sums
  hour_sums g = sums (hour_quantities g)

  unfoldable pub closing_sums : Closing → Sums
  closing_sums g = sums (standing d t g)

-- A shortfall is an excess of the negated positions. Assumes nothing.
use mathlib.Core.Path.{◌≡◌, refl, sym}
use mathlib.Core.Bool.{Bool, true, false}
use mathlib.Core.List.{List, [], ◌∷◌, map}
use Prim.Native.Nat.{ℕ, zero, suc, ◌≤◌, zero-le}
use native.Mathlib.Omega.{arith}
use borrow.Author.Tests.{lt-ltb, le-ltb}
use lib.IntN.{ℤ, pos, negsuc, neg_ℤ, nat_abs}
use lib.ListN.{get_or}
use lib.Signed.{lt_z}
use Rattle.std.specs.Int.{int_max}
use Rattle.integers.specs.Ranges.{natural}
use Rattle.integers.specs.Lists.{AtMost}
use Rattle.integers.proofs.Sizes.{size-neg}
use Rattle.integers.proofs.Sums.{at_most_cons}
use Rattle.rules.specs.Market.{caused, size}
use Rattle.rules.proofs.Settling.{size_excess, size_shortfall}
use Rattle.sides.specs.Sides.{side, turn}

pub size-turn : (up : Bool) (x : ℤ) → nat_abs (turn up x) ≡ nat_abs x
unfolding turn
size-turn true x = refl
size-turn false x = size-neg x

-- the size of a causer
pub natural-turn : (up : Bool) (x : ℤ) → natural (turn up x) ≡ size (side up 0) x
unfolding turn side
natural-turn true x = sym (size_excess 0 x)
natural-turn false x = sym (size_shortfall 0 x)

-- what is not below zero, as the code takes it
pub max_natural : (x : ℤ) → nat_abs (int_max x (pos 0)) ≡ natural x
unfolding natural
max_natural (pos zero) = refl
max_natural (pos (suc n)) = rw (lt-ltb 0 (suc n) (omega arith))
max_natural (negsuc n) = refl

below-neg : (x : ℤ) → lt_z (pos 0) (neg_ℤ x) ≡ lt_z x (pos 0)
below-neg (pos zero) = refl
below-neg (pos (suc n)) = sym (le-ltb (suc n) 0 (omega arith))
below-neg (negsuc n) = lt-ltb 0 (suc n) (omega arith)

-- the mark of a user, by the test that the code makes
pub caused-turn : (up : Bool) (x : ℤ) → lt_z (pos 0) (turn up x) ≡ caused (side up 0) x
unfolding turn side caused
caused-turn true x = refl
caused-turn false x = below-neg x

-- a list of bounded numbers
pub at_most_pos : {n : ℕ} (ns : List ℕ) → ((i : ℕ) → get_or ns i 0 ≤ n) → AtMost n (map pos ns)
at_most_pos [] h = record { at = λ i. zero-le }
at_most_pos (x ∷ xs) h = at_most_cons (h 0) (at_most_pos xs (λ i. h (suc i)))

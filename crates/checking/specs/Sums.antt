-- Sums of a day's numbers, which no number that a program is answered can make wrap. Assumes nothing.
use Rattle.std.specs.Prelude.{Bool, cond, ◌&&◌, List, ℤ, pos, negsuc, ◌+ℤ◌, length, get_or}
use Rattle.integers.specs.Lists.{every, tabulate}
use Rattle.integers.specs.Ranges.{in_range}
use Rattle.checking.specs.Same.{same_list}

-- no larger than a sum of a day can be
unfoldable pub near : ℤ → Bool
near x = in_range (negsuc 999999999999999) (pos 1000000000000000) x

-- the sum of two numbers that are near; else a number that is not, so that a sum that is near is a true one
unfoldable pub plus : ℤ → ℤ → ℤ
plus x y = cond (near x && near y) (x +ℤ y) (pos 1000000000000001)

-- a list with another added to it, place by place; what the other lacks is 0
unfoldable pub added : List ℤ → List ℤ → List ℤ
added xs ys = tabulate (λ i. plus (get_or xs i (pos 0)) (get_or ys i (pos 0))) (length xs)

-- two lists of sums that are true, and the same
unfoldable pub balanced : List ℤ → List ℤ → Bool
balanced xs ys = every near xs && same_list xs ys

-- A number as its plain decimal text. Assumes nothing.
use Rattle.std.specs.Prelude.{ℕ, zero, suc, ◌+◌, ◌/◌, ◌%◌, cond, List, [], ◌∷◌, ◌++◌, ltb, ℤ, pos, negsuc}
use Rattle.text.specs.Bytes.{comma, digit0, minus_sign}

-- the digits of n without leading zeros, of which there are at most k. (The `let` is computed only where it is used.)
unfoldable pub digits_in : ℕ → ℕ → List ℕ
digits_in zero n = []
digits_in (suc k) n =
    let more = digits_in k (n / 10) ++ ((digit0 + n % 10) ∷ []) in
    cond (ltb n 10) ((digit0 + n) ∷ []) more

-- no number n has more than n + 1 digits
unfoldable pub digits : ℕ → List ℕ
digits n = digits_in (suc n) n

-- "plain decimals": a `-` before the digits of a number below zero
unfoldable pub decimal : ℤ → List ℕ
decimal (pos n) = digits n
decimal (negsuc n) = minus_sign ∷ digits (suc n)

-- a number with the comma after it
unfoldable pub field : ℤ → List ℕ
field x = decimal x ++ (comma ∷ [])

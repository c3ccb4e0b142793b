-- Tests of signed numbers, and counts. Assumes nothing.
use Rattle.std.specs.Prelude.{Bool, ◌&&◌, ℕ, eqb, ℤ, pos, negsuc, nat_abs}
use Rattle.std.specs.Int.Signed.{le_z}

-- lo ≤ x ≤ hi
abbrev pub in_range : ℤ → ℤ → ℤ → Bool
in_range lo hi x = le_z lo x && le_z x hi

-- x is y
abbrev pub equal : ℤ → ℤ → Bool
equal x y = le_z x y && le_z y x

-- x is 0
abbrev pub is_zero : ℤ → Bool
is_zero x = eqb (nat_abs x) 0

-- a count as a natural number; what is below 0 counts nothing
unfoldable pub natural : ℤ → ℕ
natural (pos n) = n
natural (negsuc n) = 0

-- A field's bytes as a number: what they say is a number, or that they are none. Assumes nothing.
use Rattle.std.specs.Prelude.{ℕ, zero, suc, ◌+◌, ◌*◌, ◌-◌, Bool, false, ◌&&◌, ◌||◌, cond, List, [], ◌∷◌, eqb, leb, ℤ, pos, negsuc, length, Option, Some, None}
use Rattle.text.specs.Bytes.{minus_sign, point, digit0, digit9}

abbrev pub is_digit : ℕ → Bool
is_digit x = leb digit0 x && leb x digit9

-- the decimal number of digits, with v in front of them; none where a byte is no digit
abbrev pub digits_from : ℕ → List ℕ → Option ℕ
digits_from v [] = Some v
digits_from v (x ∷ xs) = cond (is_digit x) (digits_from (v * 10 + (x - digit0)) xs) None

-- "A number has 1 to 9 digits"
abbrev pub digits_of : List ℕ → Option ℕ
digits_of f = cond (leb 1 (length f) && leb (length f) 9) (digits_from 0 f) None

-- a leading zero that is needless: a first 0 with more after it
abbrev pub needless_zero : List ℕ → Bool
needless_zero [] = false
needless_zero (x ∷ []) = false
needless_zero (x ∷ y ∷ ys) = eqb x digit0

-- "h and g are unsigned"; "no needless leading zero"
abbrev pub unsigned_of : List ℕ → Option ℕ
unsigned_of f = cond (needless_zero f) None (digits_of f)

-- ---- an amount's size: kWh, or MWh with a point

-- whether a point stands in a field; the bytes before the first; and those after it
abbrev pub has_point : List ℕ → Bool
has_point [] = false
has_point (x ∷ xs) = eqb x point || has_point xs

abbrev pub before_point : List ℕ → List ℕ
before_point [] = []
before_point (x ∷ xs) = cond (eqb x point) [] (x ∷ before_point xs)

abbrev pub after_point : List ℕ → List ℕ
after_point [] = []
after_point (x ∷ xs) = cond (eqb x point) xs (after_point xs)

-- "A field with a point has one to six digits before it, written as whole numbers are, with 0 allowed there"
abbrev pub whole_of : List ℕ → Option ℕ
whole_of f = cond (leb (length f) 6) (unsigned_of f) None

-- "exactly three decimals"
abbrev pub decimals_of : List ℕ → Option ℕ
decimals_of f = cond (eqb (length f) 3) (digits_from 0 f) None

-- "so 12.345 means 12,345 kWh"
abbrev pub mwh_of : Option ℕ → Option ℕ → Option ℕ
mwh_of None d = None
mwh_of (Some m) None = None
mwh_of (Some m) (Some d) = Some (m * 1000 + d)

-- "A field without a point still means kWh."
abbrev pub size_of : List ℕ → Option ℕ
size_of f = cond (has_point f) (mwh_of (whole_of (before_point f)) (decimals_of (after_point f))) (unsigned_of f)

-- ---- an amount: its size, and its sign

-- the amount with no sign
abbrev pub positive : Option ℕ → Option ℤ
positive (Some n) = Some (pos n)
positive None = None

-- the amount after a `-`: minus its size, and "not `-0`"; "`-0.000` is turned away by 15, `-0.005` is read as minus 5"
abbrev pub negative : Option ℕ → Option ℤ
negative (Some zero) = None
negative (Some (suc n)) = Some (negsuc n)
negative None = None

-- "the rest may begin with `-`"
abbrev pub amount_of : List ℕ → Option ℤ
amount_of [] = None
amount_of (x ∷ xs) = cond (eqb x minus_sign) (negative (size_of xs)) (positive (size_of (x ∷ xs)))

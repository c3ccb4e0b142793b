-- "Quantities and their ranges": the limits of document 01, each once, by the kind of amount that it bounds; and the lengths of a day and the bound of a total, from document 02.
-- `most` is the size that a range goes to. Assumes nothing.
use Rattle.std.specs.Prelude.{Bool, ℕ, ◌*◌, ℤ, pos, neg_ℤ}
use Rattle.integers.specs.Ranges.{in_range}

-- "Users in a day: 1 to 128"
abbrev pub users_most : ℕ
users_most = 128

unfoldable pub users_fit : ℤ → Bool
users_fit users = in_range (pos 1) (pos users_most) users

-- document 02: "Opening must be told 23, 24 or 25"
abbrev pub length_least : ℕ
length_least = 23

abbrev pub length_most : ℕ
length_most = 25

unfoldable pub length_fit : ℤ → Bool
length_fit hours = in_range (pos length_least) (pos length_most) hours

-- document 02: "The cases and the program have length 24."
abbrev pub length_usual : ℕ
length_usual = 24

-- "Zones: 0 is H, 1 is L."
unfoldable pub zone_fit : ℤ → Bool
zone_fit zone = in_range (pos 0) (pos 1) zone

-- "Entry (EEA): 0 to 50,000,000."
abbrev pub entry_most : ℕ
entry_most = 50_000_000

unfoldable pub entry_fit : ℤ → Bool
entry_fit kwh = in_range (pos 0) (pos entry_most) kwh

-- "Exit (XEA): -50,000,000 to 0."
abbrev pub exit_most : ℕ
exit_most = 50_000_000

unfoldable pub exit_fit : ℤ → Bool
exit_fit kwh = in_range (neg_ℤ (pos exit_most)) (pos 0) kwh

-- "Net title transfer (NCTTN): -50,000,000 to 50,000,000."
abbrev pub title_most : ℕ
title_most = 50_000_000

unfoldable pub title_fit : ℤ → Bool
title_fit kwh = in_range (neg_ℤ (pos title_most)) (pos title_most) kwh

-- "Pooling transfer (IPT): -100,000,000 to 100,000,000."
abbrev pub pooling_most : ℕ
pooling_most = 100_000_000

unfoldable pub pooling_fit : ℤ → Bool
pooling_fit kwh = in_range (neg_ℤ (pos pooling_most)) (pos pooling_most) kwh

-- "A position, before or after settlement: -100,000,000 to 100,000,000."
abbrev pub position_most : ℕ
position_most = 100_000_000

unfoldable pub position_fit : ℤ → Bool
position_fit kwh = in_range (neg_ℤ (pos position_most)) (pos position_most) kwh

-- the sum of all users' positions
abbrev pub market_most : ℕ
market_most = users_most * position_most

-- document 02, of what was sold or bought so far: "a total below zero or above 332,800,000,000"
abbrev pub total_most : ℕ
total_most = 332_800_000_000

unfoldable pub total_fit : ℤ → Bool
total_fit kwh = in_range (pos 0) (pos total_most) kwh

-- "Upper threshold: 0 to 1,000,000,000."
abbrev pub threshold_most : ℕ
threshold_most = 1_000_000_000

unfoldable pub upper_fit : ℤ → Bool
upper_fit kwh = in_range (pos 0) (pos threshold_most) kwh

-- "Lower threshold: -1,000,000,000 to 0."
unfoldable pub lower_fit : ℤ → Bool
lower_fit kwh = in_range (neg_ℤ (pos threshold_most)) (pos 0) kwh

-- "Price: -10,000,000 to 10,000,000."
abbrev pub price_most : ℕ
price_most = 10_000_000

unfoldable pub price_fit : ℤ → Bool
price_fit micros = in_range (neg_ℤ (pos price_most)) (pos price_most) micros

-- "by month (1 to 12)"
unfoldable pub month_fit : ℤ → Bool
month_fit month = in_range (pos 1) (pos 12) month

-- "Default thresholds (source document 001, 5.3.1), in GWh of 1,000,000 kWh". Assumes nothing.
use Rattle.std.specs.Prelude.{List, [], ◌∷◌, ℕ, ◌*◌, ℤ, pos, neg_ℤ, ◌-ℤ◌, get_or}
use Rattle.integers.specs.Ranges.{natural}

-- "January to December, upper threshold": of the H zone, then of the L zone
unfoldable pub upper_gwh : List (List ℕ)
upper_gwh =
    (22 ∷ 22 ∷ 22 ∷ 25 ∷ 29 ∷ 29 ∷ 30 ∷ 30 ∷ 29 ∷ 25 ∷ 22 ∷ 22 ∷ [])
    ∷ (13 ∷ 13 ∷ 13 ∷ 13 ∷ 15 ∷ 15 ∷ 16 ∷ 16 ∷ 15 ∷ 13 ∷ 13 ∷ 13 ∷ [])
    ∷ []

-- "by month (1 to 12) and zone", in kWh
unfoldable pub upper_default : ℤ → ℤ → ℤ
upper_default month zone = pos (get_or (get_or upper_gwh (natural zone) []) (natural (month -ℤ pos 1)) 0 * 1_000_000)

-- "the lower one is its negation"
unfoldable pub lower_default : ℤ → ℤ → ℤ
lower_default month zone = neg_ℤ (upper_default month zone)

-- The pass that hands out the spare units of rule 4, as it is seen in the list that it writes, before and after. Assumes nothing.
use Rattle.std.specs.Prelude.{Bool, cond, List, ℕ, zero, suc, ltb, ℤ, pos, ◌+ℤ◌, length, get_or}
use Rattle.std.specs.Int.Signed.{lt_z}
use Rattle.integers.specs.Lists.{bit, tabulate}

-- what it leaves: one more at each place whose remainder is above `at`
unfoldable pub raised_by : List ℕ → ℕ → List ℤ → List ℤ
raised_by rs at before = tabulate (λ place. get_or before place (pos 0) +ℤ pos (bit (ltb at (get_or rs place 0)))) (length before)

-- whether the user at a place "got a kWh": what stands in its place is larger after the pass than before
abbrev pub got : List ℤ → List ℤ → ℕ → Bool
got before after place = lt_z (get_or before place (pos 0)) (get_or after place (pos 0))

-- of the places below n, one more than the last that passes the test, and 0 if none does
unfoldable pub through : (ℕ → Bool) → ℕ → ℕ
through test zero = 0
through test (suc n) = cond (test n) (suc n) (through test n)

-- "how many users it went to": it ends with the last that got a kWh, and goes to none if nobody did
unfoldable pub visited : List ℤ → List ℤ → ℕ
unfolding through
visited before after = through (got before after) (length before)

-- The judge of an operator's own quantities, by document 02: "Given the inputs of an hour and the operator's quantity list, accept exactly when the quantities add to the excess (or to minus
-- the shortfall, or to zero if there is neither), only causers have any, with the right sign, and each is less than 1 kWh from the exact share." Of the hour g only the terms and the
-- amounts are read. Assumes nothing.
use Rattle.std.specs.Prelude.{Bool, not, cond, ◌&&◌, ◌||◌, List, Result, Ok, ℕ, ◌+◌, ◌*◌, ltb, ℤ, nat_abs}
use mathlib.Core.List.{zip_with}
use Rattle.integers.specs.Ranges.{equal, is_zero}
use Rattle.integers.specs.Lists.{sum, sum_ℤ, every}
use Rattle.rules.specs.declared.Cause.{Cause}
use Rattle.rules.specs.declared.Cause.TheVariants as cause
use Rattle.rules.specs.declared.Day.{Day}
use Rattle.rules.specs.declared.Refusal.{Refusal}
use Rattle.rules.specs.Hours.{Hour, before}
use Rattle.rules.specs.Refusals.{number, unless, ◌then◌}
use Rattle.rules.specs.Market.{Imbalance, total, caused, sizes, signed, hour_imbalance}
use Rattle.rules.specs.Causes.{judge_inputs_cause}
use Rattle.rules.specs.Answers.{with_day, number_by}

-- a test of each user, of its position before and its quantity
unfoldable pub each_user : (ℤ → ℤ → Bool) → List ℤ → List ℤ → Bool
each_user test ps qs = every (λ holds. holds) (zip_with test ps qs)

-- ---- 22: "if a user who did not cause has a quantity or a causer's has the wrong sign"

-- the right sign is the one that rule 5 gives its size (`signed`); so 0 has no wrong sign
unfoldable pub sign_right : Imbalance → ℤ → ℤ → Bool
sign_right i p q = cond (caused i p) (equal q (signed i (nat_abs q))) (is_zero q)

-- ---- 23: "if one is 1 kWh or more off"; document 01: "a settled size is less than 1 kWh from it when that size times the sum differs from the product by less than the sum"

-- of a causer, where S is the sum of all causers' sizes
unfoldable pub near : Imbalance → ℕ → ℤ → ℤ → Bool
near i S p q = ltb (nat_abs q * S) (total i * nat_abs p + S) && ltb (total i * nat_abs p) (nat_abs q * S + S)

unfoldable pub share_right : Imbalance → ℕ → ℤ → ℤ → Bool
share_right i S p q = not (caused i p) || near i S p q

-- ---- 24: "if the sum is wrong": "the quantities add to the excess (or to minus the shortfall, or to zero if there is neither)"
unfoldable pub sum_right : Imbalance → List ℤ → Bool
sum_right i qs = equal (sum_ℤ qs) (signed i (total i))

-- ---- the first cause: "22 .. then 23 .. then 24", each of all users
unfoldable pub quantities_cause : Imbalance → List ℤ → List ℤ → Result Unit Cause
quantities_cause i ps qs =
    unless (each_user (sign_right i) ps qs) cause.Signs
    then unless (each_user (share_right i (sum (sizes i ps))) ps qs) cause.Shares
    then unless (sum_right i qs) cause.Sum

unfoldable pub judge_cause : Day → List ℤ → Hour → List ℤ → Result Unit Cause
judge_cause d t g qs =
    judge_inputs_cause d t g qs
    then quantities_cause (hour_imbalance d t g) (before d t g) qs

-- ---- the answer: "the record comes back unchanged"
unfoldable pub judge_answer : Day → List ℤ → Hour → List ℤ → Result Day Refusal
judge_answer d t g qs = with_day d (judge_cause d t g qs) then Ok d

unfoldable pub judge_number : Result Day Refusal → ℕ
judge_number = number_by (λ r. number r.cause)

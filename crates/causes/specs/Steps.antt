-- The lengths of cause 3, what they leave for causes 4 to 11, and cause 25 after those before it, as the private functions promise them to the calls. Who believes the rules need not
-- believe these: the public contracts cite none of them. Assumes nothing.
use Rattle.std.specs.Prelude.{◌≡◌, Bool, true, ◌&&◌, List, Result, Ok, ℕ, eqb, ℤ, length, take}
use Rattle.integers.specs.Lists.{sum_ℤ}
use Rattle.rules.specs.declared.Amounts.{Amounts}
use Rattle.rules.specs.declared.Cause.{Cause}
use Rattle.rules.specs.declared.Cause.TheVariants as cause
use Rattle.rules.specs.declared.Day.{Day}
use Rattle.rules.specs.declared.Outputs.{Outputs}
use Rattle.rules.specs.declared.Sums.{Sums}
use Rattle.rules.specs.Days.{users, part}
use Rattle.rules.specs.Hours.{Hour, before}
use Rattle.rules.specs.Market.{sums, hour_sums}
use Rattle.rules.specs.Refusals.{unless, ◌then◌}
use Rattle.rules.specs.Causes.{day_fit, table_long, list_long, inputs_cause, totals_bounded}
use Rattle.places.specs.Live.{Tabled}
use Rattle.positions.specs.Before.{OneLength}

abbrev pub four_long : ℕ → Amounts → Bool
four_long n a = eqb (length a.entries.now) n && (eqb (length a.exits.now) n && (eqb (length a.titles.now) n && eqb (length a.poolings.now) n))

abbrev pub filled_long : ℕ → Outputs → List ℕ → Bool
filled_long n o s = eqb (length o.quantity.now) n && (eqb (length o.money.now) n && eqb (length s) n)

abbrev pub hour_lists_long : Day → List ℤ → Amounts → Outputs → List ℕ → Bool
hour_lists_long d t a o s = table_long t && (four_long (users d) a && filled_long (users d) o s)

abbrev pub judge_lists_long : Day → List ℤ → Amounts → List ℤ → Bool
judge_lists_long d t a qs = table_long t && (four_long (users d) a && list_long d qs)

abbrev pub closing_lists_long : Day → List ℤ → Outputs → Bool
closing_lists_long d t o = table_long t && (list_long d o.quantity.now && list_long d o.money.now)

-- what causes 4 to 11 count on: a record that fits, a table of all its places, and for each kind of amount a list of the user count
pub record Listed (d : Day) (t : List ℤ) (a : Amounts) : Type 0 where
  pub day : day_fit d ≡ true
  pub tabled : Tabled d t
  pub entries : length a.entries.now ≡ users d
  pub lists : OneLength a

-- of an hour, 4 to 11 and then 25, or else the market position
abbrev pub inputs_and_totals_cause : Day → List ℤ → Hour → Result ℤ Cause
inputs_and_totals_cause d t g =
    inputs_cause d t g
    then unless (totals_bounded g.terms.zone (hour_sums d t g) d) cause.Totals
    then Ok (sum_ℤ (before d t g))

-- of a closing, 25, or else the two sums
abbrev pub closing_totals_cause : Day → List ℤ → ℤ → Result Sums Cause
closing_totals_cause d t zone =
    let s = sums (take (users d) (part zone t)) in
    unless (totals_bounded zone s d) cause.Totals then Ok s

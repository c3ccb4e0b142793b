-- Cause 25: what the causes before it leave for it, and that it is then the only one left. Assumes nothing.
use mathlib.Core.Path.{◌≡◌, refl}
use mathlib.Core.Bool.{true}
use mathlib.Core.List.{List}
use native.Mathlib.Omega.{arith}
use lib.IntN.{ℤ}
use lib.ListN.{take, length-take}
use Rattle.std.specs.Prelude.{Ok}
use Rattle.integers.specs.Lists.{sum_ℤ}
use Rattle.integers.proofs.Passes.{every_take}
use Rattle.rules.specs.declared.ClosingTerms.{ClosingTerms}
use Rattle.rules.specs.declared.Day.{Day}
use Rattle.rules.specs.declared.Outputs.{Outputs}
use Rattle.rules.specs.Limits.{zone_fit, position_fit}
use Rattle.rules.specs.Days.{users, part}
use Rattle.rules.specs.Hours.{Hour, closing_given, before, standing}
use Rattle.rules.specs.Market.{sums, closing_sums}
use Rattle.rules.specs.Refusals.{◌then◌}
use Rattle.rules.specs.Causes.{day_fit, closing_long, zone_open, all_done, table_fit, prices_fit, inputs_cause, closing_cause}
use Rattle.rules.proofs.Small.{positions_small}
use Rattle.rules.proofs.Accepted.{users_of_lem, part-fits, inputs_fit_lem}
use Rattle.rules.proofs.Refusing.{then_ok}
use Rattle.rules.specs.Guarantees.{InputsFit}
use Rattle.day_record.specs.Small.{SumsSmall}
use Rattle.totals.proofs.Hours.{sums_small}
use Rattle.causes.specs.Steps.{closing_lists_long, closing_totals_cause}

-- ---- a closing
module _ (d : Day) (t : List ℤ) (zone : ℤ) (day : day_fit d ≡ true) (table : table_fit d t ≡ true) where
  pub closing_small : SumsSmall (sums (take (users d) (part zone t)))
  closing_small =
      sums_small (take (users d) (part zone t)) (simp length-take (omega (arith, (users_of_lem d day).1)))
      (positions_small _ (every_take position_fit (users d) _ (part-fits zone d t table)))

module _ (d : Day) (t : List ℤ) (k : ClosingTerms) (o : Outputs) where
  -- past causes 2 to 8
  pub closing_past_8 : day_fit d ≡ true → closing_lists_long d t o ≡ true → zone_fit k.zone ≡ true → zone_open k.zone d ≡ true → all_done d k ≡ true
      → table_fit d t ≡ true → prices_fit k.excess_price k.shortfall_price ≡ true
      → closing_totals_cause d t k.zone ≡ (closing_cause d t (closing_given k o) then Ok (closing_sums d t (closing_given k o)))
  unfolding closing_cause closing_long closing_sums standing
  closing_past_8 day long zone open' done table prices = rw (day, long, zone, open', done, table, prices) refl

-- ---- an hour
module _ (d : Day) (t : List ℤ) (g : Hour) where
  -- past causes 4 to 11
  pub inputs_past : {market : ℤ} → (inputs_cause d t g then Ok (sum_ℤ (before d t g))) ≡ Ok market → InputsFit d t g × (sum_ℤ (before d t g) ≡ market)
  inputs_past e = let (none, is) = then_ok e in (inputs_fit_lem d t g none, is)

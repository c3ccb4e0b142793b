-- All figures, and the further examples, by computing the definitions. Assumes nothing.
use mathlib.Core.Path.{refl}
use Rattle.rules.specs.Compute.{rules}
use Rattle.allocation_row.specs.Rows.{as_row}
use Rattle.allocation_file.specs.File.{file_of}
use Rattle.cases.specs.Cases.{opened, terms_of, moved, said, quantity, money, left, hour_figures, nines, file_a, said_by, said_a}
use Rattle.cases.specs.Cases.{case_a, figures_a, case_b, figures_b, figures_c, figures_d, figures_e, figures_f, figures_g, case_i, figures_i, figures_j}
use Rattle.cases.specs.Cases.{table_h, case_h, figures_h, figures_k, figures, AllFigures}
use Rattle.cases.specs.Examples.{example_hour, example_closing, hours_from, zone_calls, zone_causes, whole_day, start, causes, WholeDays, TwelveUsers, Defaults}
use Rattle.cases.specs.Examples.{judged, whole_shares, short_shares, within_thresholds, JudgedLists}
use Rattle.cases.specs.Examples.{sells_2, buys_2, closes_at, settled_by, closed_by, TotalsAtTheBound}

pub all_figures : AllFigures
unfolding
    rules as_row file_of opened terms_of moved said quantity money left
    hour_figures nines file_a said_by said_a case_a figures_a case_b figures_b figures_c
    figures_d figures_e figures_f figures_g case_i figures_i figures_j table_h case_h figures_h
    figures_k figures
all_figures = refl

pub whole_days : WholeDays
unfolding rules example_hour example_closing hours_from zone_calls zone_causes whole_day start causes
whole_days = (
  record { begins = refl; answers = refl; ends = refl; first_adds = refl; second_adds = refl },
  record { begins = refl; answers = refl; ends = refl; first_adds = refl; second_adds = refl },
  record { begins = refl; answers = refl; ends = refl; first_adds = refl; second_adds = refl },
)

pub twelve_users : TwelveUsers
unfolding rules
twelve_users = refl

pub defaults : Defaults
unfolding rules
defaults = (refl, refl)

pub judged_lists : JudgedLists
unfolding
    rules as_row file_of opened terms_of moved nines file_a said_by said_a case_a judged whole_shares short_shares
    within_thresholds
judged_lists = record {
  case_a_accepted = refl;
  case_a_signs = refl;
  case_a_shares = refl;
  case_a_sums = refl;
  one_off = refl;
  shortfall_accepted = refl;
  in_turn = refl;
  within_accepted = refl;
  any_number = refl;
  least = refl;
  long = refl;
}

pub totals_at_the_bound : TotalsAtTheBound
unfolding rules terms_of moved sells_2 buys_2 closes_at settled_by closed_by
totals_at_the_bound = record {
  hour_sold = refl;
  hour_bought = refl;
  reached = refl;
  other_side = refl;
  other_zone = refl;
  closing_sold = refl;
  closing_bought = refl;
  previewed = refl;
  judged_past_it = refl;
  after_11 = refl;
  after_8 = refl;
  not_begun = refl;
  below_zero = refl;
  above = refl;
}

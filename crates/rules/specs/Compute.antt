-- To compute with the rules: `unfolding rules` opens every definition at once. Written by .ci/compute, which the gate checks. Assumes nothing.
use Rattle.std.specs.Prelude.{ℕ}
use Rattle.std.specs.Int.Count.{ones_in}
use mathlib.Core.List.{zip_with}
use Rattle.integers.specs.Ranges.{natural}
use Rattle.integers.specs.Lists.{sum, sum_ℤ, every, count, tabulate}
use Rattle.largest_remainder.specs.Rule.{whole, fraction, spare, rank, settled_at, settled}
use Rattle.rules.specs.Limits.{users_fit, length_fit, zone_fit, entry_fit, exit_fit, title_fit, pooling_fit, position_fit}
use Rattle.rules.specs.Limits.{total_fit, upper_fit, lower_fit, price_fit, month_fit}
use Rattle.rules.specs.Days.{users, hours_of_day, zone_day, hours_done, is_closed, total_sold, total_bought, with_zone_day}
use Rattle.rules.specs.Days.{new_day, hour_more, day_after_hour, closed_now, day_after_closing, first_place, part, place}
use Rattle.rules.specs.Days.{with_part, onto}
use Rattle.rules.specs.Thresholds.{upper_gwh, upper_default, lower_default}
use Rattle.rules.specs.Hours.{amounts, before, standing}
use Rattle.rules.specs.Market.{imbalance_of, imbalance, total, caused, size, sizes, settled_sizes, signed}
use Rattle.rules.specs.Market.{quantities, after, money_of, moneys, causers, word, marks, outcome}
use Rattle.rules.specs.Market.{sold_of, bought_of, sold, bought, hour_imbalance, hour_sums, closing_sums}
use Rattle.rules.specs.Refusals.{by_cause}
use Rattle.rules.specs.Causes.{zone_day_fit, totals_fit, day_fit, table_long, list_long, scratch_long, amounts_long, hour_long}
use Rattle.rules.specs.Causes.{judge_long, closing_long, zone_open, hour_next, all_done, positions_fit, beyond_zero, idle_zero}
use Rattle.rules.specs.Causes.{table_fit, prices_fit, terms_fit, amounts_fit, pooling_adds, before_fit, totals_bounded, open_cause}
use Rattle.rules.specs.Causes.{thresholds_cause, inputs_cause, hour_cause, preview_cause, judge_inputs_cause, closing_cause}
use Rattle.rules.specs.Answers.{open_answer, open_table, thresholds_answer, hour_answer, hour_table, hour_quantity, hour_money, hour_scratch}
use Rattle.rules.specs.Answers.{preview_answer, preview_quantity, preview_money, preview_after, preview_scratch, closing_answer, closing_table, closing_quantity}
use Rattle.rules.specs.Answers.{closing_money, open_number, thresholds_number, hour_number, hour_day, closing_number, closing_day}
use Rattle.rules.specs.Judging.{each_user, sign_right, near, share_right, sum_right, quantities_cause, judge_cause, judge_answer}
use Rattle.rules.specs.Judging.{judge_number}
use Rattle.rules.specs.History.{opened, step, run, hour_accepted, closing_accepted, passed_on, adds_first, adds_second}
use Rattle.rules.specs.History.{first_sum, second_sum, closes_now, closes, answered, all_answered}
use Rattle.rules.specs.Guarantees.{marked}

unfoldable pub rules : ℕ
unfolding
    ones_in zip_with
    natural
    sum sum_ℤ every count tabulate
    whole fraction spare rank settled_at settled
    users_fit length_fit zone_fit entry_fit exit_fit title_fit pooling_fit position_fit
    total_fit upper_fit lower_fit price_fit month_fit
    users hours_of_day zone_day hours_done is_closed total_sold total_bought with_zone_day
    new_day hour_more day_after_hour closed_now day_after_closing first_place part place
    with_part onto
    upper_gwh upper_default lower_default
    amounts before standing
    imbalance_of imbalance total caused size sizes settled_sizes signed
    quantities after money_of moneys causers word marks outcome
    sold_of bought_of sold bought hour_imbalance hour_sums closing_sums
    by_cause
    zone_day_fit totals_fit day_fit table_long list_long scratch_long amounts_long hour_long
    judge_long closing_long zone_open hour_next all_done positions_fit beyond_zero idle_zero
    table_fit prices_fit terms_fit amounts_fit pooling_adds before_fit totals_bounded open_cause
    thresholds_cause inputs_cause hour_cause preview_cause judge_inputs_cause closing_cause
    open_answer open_table thresholds_answer hour_answer hour_table hour_quantity hour_money hour_scratch
    preview_answer preview_quantity preview_money preview_after preview_scratch closing_answer closing_table closing_quantity
    closing_money open_number thresholds_number hour_number hour_day closing_number closing_day
    each_user sign_right near share_right sum_right quantities_cause judge_cause judge_answer
    judge_number
    opened step run hour_accepted closing_accepted passed_on adds_first adds_second
    first_sum second_sum closes_now closes answered all_answered
    marked
rules = 0

-- The text of an hour that is settled as the first of a day opened for it. Assumes nothing.
use Rattle.std.specs.Prelude.{List, ℕ, ℤ, Result, Ok, Err, pos, length, take, replicate}
use Rattle.rules.specs.declared.Cause.{Cause}
use Rattle.rules.specs.declared.Day.{Day}
use Rattle.rules.specs.declared.HourTerms.{HourTerms}
use Rattle.rules.specs.declared.Thresholds.{Thresholds}
use Rattle.rules.specs.Limits.{length_usual}
use Rattle.rules.specs.Refusals.{number, ◌then◌}
use Rattle.rules.specs.Days.{users, part, new_day}
use Rattle.rules.specs.Hours.{Hour, hour_listed, before}
use Rattle.rules.specs.Thresholds.{upper_default, lower_default}
use Rattle.rules.specs.Causes.{open_cause, thresholds_cause, hour_cause}
use Rattle.rules.specs.Answers.{open_table, hour_table, hour_quantity, hour_money}
use Rattle.report.specs.Text.{refused_line, hour_text}

-- "settles the file's hour": a line for each user, by its positions before and after; or the cause of a refusal
unfoldable pub settled : Day → List ℤ → Hour → Result (List ℕ) Cause
settled d t g =
    hour_cause d t g
    then Ok (hour_text (before d t g) (hour_quantity d t g) (hour_money d t g) (take (users d) (part g.terms.zone (hour_table d t g))))

-- "excess price 20000, shortfall price 25000"
unfoldable pub terms_of : ℤ → ℤ → Thresholds → HourTerms
terms_of hour zone thresholds =
    record { zone = zone; hour = hour; upper = thresholds.upper; lower = thresholds.lower; excess_price = pos 20000; shortfall_price = pos 25000 }

-- "with January's defaults"
unfoldable pub january_terms : ℤ → ℤ → HourTerms
january_terms hour zone = terms_of hour zone (record { upper = upper_default (pos 1) zone; lower = lower_default (pos 1) zone })

unfoldable pub with_defaults : Day → List ℤ → ℤ → ℤ → (HourTerms → Hour) → Result (List ℕ) Cause
with_defaults d t hour zone given = thresholds_cause (pos 1) zone then settled d t (given (january_terms hour zone))

-- "opens a day of that many users", of the cases' and the program's length
abbrev pub program_length : ℤ
program_length = pos length_usual

unfoldable pub opened : ℤ → ℤ → List ℤ → ℕ → (HourTerms → Hour) → Result (List ℕ) Cause
opened hour zone table n given =
    open_cause (pos n) program_length table
    then with_defaults (new_day (pos n) program_length) (open_table (pos n) program_length table) hour zone given

-- "A refusal by any call prints the one line"
unfoldable pub unless_refused : Result (List ℕ) Cause → List ℕ
unless_refused (Ok text) = text
unless_refused (Err cause) = refused_line (number cause)

-- the hour of a file's lists, with a table, lists and a scratch of zeros as the program lends them
unfoldable pub opened_new : ℤ → ℤ → List ℤ → List ℤ → List ℤ → List ℤ → List ℕ
opened_new hour zone entry exit title pooling =
    let n = length entry in
    unless_refused
    (opened hour zone (replicate 256 (pos 0)) n
    (λ terms. hour_listed terms entry exit title pooling (replicate n (pos 0)) (replicate n (pos 0)) (replicate n 0)))

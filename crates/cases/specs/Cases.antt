-- "Figures to be proved: cases A to K", as one list over the definitions of the rules and of the file. "a threshold or price not named is 0". Beside the numbers that document 01
-- prints stand the whole answer of each case (outcome, side, total, marks, the record after) and what is left in the table, worked out by hand from its rules. Assumes nothing.
use Rattle.std.specs.Prelude.{◌≡◌, Result, Ok, Err, Bool, true, false, List, [], ◌∷◌, ◌++◌, map, ℕ, ℤ, pos, neg_ℤ, length, get_or, take, replicate}
use Rattle.rules.specs.declared.Day.{Day}
use Rattle.rules.specs.declared.Refusal.{Refusal}
use Rattle.rules.specs.declared.HourTerms.{HourTerms}
use Rattle.rules.specs.declared.Side.{Side}
use Rattle.rules.specs.declared.Side.TheVariants.{Excess, Shortfall}
use Rattle.rules.specs.declared.Outcome.TheVariants.{Within, Settled}
use Rattle.rules.specs.declared.HourDone.{HourDone}
use Rattle.rules.specs.declared.ClosingDone.{ClosingDone}
use Rattle.rules.specs.Limits.{length_usual}
use Rattle.rules.specs.Days.{new_zone_day, new_day, part}
use Rattle.rules.specs.Thresholds.{upper_default, lower_default}
use Rattle.rules.specs.Hours.{Hour, Closing, before}
use Rattle.rules.specs.Answers.{open_table, hour_answer, hour_table, hour_quantity, hour_money, closing_answer, closing_table, closing_quantity, closing_money}
use Rattle.rules.specs.History.{State, hour, step}
use Rattle.allocation_row.specs.declared.FileCause.{FileCause}
use Rattle.allocation_row.specs.Causes.{number as file_number}
use Rattle.allocation_file.specs.declared.FileRead.{FileRead}
use Rattle.text.specs.Bytes.{bytes}
use Rattle.allocation_lines.specs.Turns.{File}
use Rattle.allocation_file.specs.File.{outcome, answer_of, list_of}
use Rattle.file_guarantees.specs.Examples.{case_a_text}

-- what a case says: numbers, or the whole answer of an hour or of a closing
pub data Said : Type 0 where
  numbers : List ℤ → Said
  of_hour : Result HourDone Refusal → Said
  of_closing : Result ClosingDone Refusal → Said

-- what the definitions give, and what the paper says
pub record Figure : Type 0 where
  pub defined : Said
  pub paper : Said

abbrev pub neg : ℕ → ℤ
neg n = neg_ℤ (pos n)

-- ---- what the paper says, in its own terms

-- the cases' length, and the program's
abbrev pub cases_length : ℤ
cases_length = pos length_usual

-- the record of n users, of whose H zone so many hours are done and so much was sold and bought; nothing was done in the L zone
abbrev pub day_of : ℕ → ℕ → Bool → ℕ → ℕ → Day
day_of n hours closed sold bought =
    record { users = pos n; length = cases_length; h = record { hours = pos hours; closed = closed; sold = pos sold; bought = pos bought }; l = new_zone_day }

-- an accepted hour within its thresholds, and one that was settled: its side, and the causers of places 0 to 63 with their number
abbrev pub was_within : Day → Said
was_within d = of_hour (Ok (record { day = d; outcome = Within }))

abbrev pub was_settled : Day → Side → ℕ → ℕ → Said
was_settled d side first number = of_hour (Ok (record { day = d; outcome = Settled side (record { first = first; second = 0; number = number }) }))

-- ---- what the definitions give

-- a day of n users as opening leaves it, on a table that held something else
unfoldable pub opened : ℕ → State
opened n = record { day = new_day (pos n) cases_length; table = open_table (pos n) cases_length (replicate 256 (pos 9)) }

-- the H zone's hour h: its thresholds and its excess price
unfoldable pub terms_of : ℕ → ℤ → ℤ → ℤ → HourTerms
terms_of h upper lower excess_price = record { zone = pos 0; hour = pos h; upper = upper; lower = lower; excess_price = excess_price; shortfall_price = pos 0 }

-- an hour that moves the users by these amounts, as title transfers; its lists and its scratch hold something else
unfoldable pub moved : List ℤ → HourTerms → Hour
moved amounts terms =
    let zeros = replicate (length amounts) (pos 0) in
    let others = replicate (length amounts) (pos 9) in
    record {
      terms = terms;
      entry = zeros;
      exit = zeros;
      title = amounts;
      pooling = zeros;
      quantity = others;
      money = others;
      scratch = replicate (length amounts) 9;
    }

-- of an hour of the H zone on a state of n users
module _ (n : ℕ) (s : State) (g : Hour) where
  unfoldable pub said : Said
  said = of_hour (hour_answer s.day s.table g)

  unfoldable pub quantity : Said
  quantity = numbers (hour_quantity s.day s.table g)

  unfoldable pub money : Said
  money = numbers (hour_money s.day s.table g)

  unfoldable pub left : Said
  left = numbers (take n (part (pos 0) (hour_table s.day s.table g)))

-- the three figures of an hour: quantities, positions after, and the answer
unfoldable pub hour_figures : ℕ → State → Hour → List ℤ → List ℤ → Said → List Figure
hour_figures n s g quantities positions answer =
    record { defined = quantity n s g; paper = numbers quantities }
    ∷ record { defined = left n s g; paper = numbers positions }
    ∷ record { defined = said n s g; paper = answer }
    ∷ []

-- ---- case A, by its file

-- the file as it is read into lists that held something else
unfoldable pub nines : List ℤ
nines = replicate 128 (pos 9)

unfoldable pub file_a : File
file_a = outcome (bytes case_a_text) nines nines nines nines

-- what the reader answers: hour, zone and number of lines; or the cause alone
unfoldable pub said_by : Result FileRead FileCause → List ℤ
said_by (Err cause) = pos (file_number cause) ∷ []
said_by (Ok f) = f.hour ∷ f.zone ∷ f.lines ∷ []

unfoldable pub said_a : List ℤ
said_a = said_by (answer_of file_a)

-- "opens a day of that many users, and settles the file's hour in the file's zone with January's defaults, excess price 20000, shortfall price 25000"
unfoldable pub case_a : Hour
case_a =
    let zone = get_or said_a 1 (pos 9) in
    record {
      terms = record { zone = zone; hour = get_or said_a 0 (pos 9); upper = upper_default (pos 1) zone; lower = lower_default (pos 1) zone; excess_price = pos 20_000; shortfall_price = pos 25_000 };
      entry = take 3 (list_of (λ r. r.entry) file_a nines);
      exit = take 3 (list_of (λ r. r.exit) file_a nines);
      title = take 3 (list_of (λ r. r.title) file_a nines);
      pooling = take 3 (list_of (λ r. r.pooling) file_a nines);
      quantity = replicate 3 (pos 9);
      money = replicate 3 (pos 9);
      scratch = replicate 3 9;
    }

unfoldable pub figures_a : List Figure
figures_a =
    record { defined = numbers said_a; paper = numbers (pos 1 ∷ pos 0 ∷ pos 3 ∷ []) }
    ∷ record { defined = numbers (before (opened 3).day (opened 3).table case_a); paper = numbers (pos 20_000_000 ∷ pos 10_000_000 ∷ neg 3_000_000 ∷ []) }
    ∷ record { defined = money 3 (opened 3) case_a; paper = numbers (pos 66_666_660_000 ∷ pos 33_333_340_000 ∷ pos 0 ∷ []) }
    ∷ hour_figures 3 (opened 3) case_a
    (pos 3_333_333 ∷ pos 1_666_667 ∷ pos 0 ∷ [])
    (pos 16_666_667 ∷ pos 8_333_333 ∷ neg 3_000_000 ∷ [])
    (was_settled (day_of 3 1 false 5_000_000 0) (Excess (pos 5_000_000)) 3 2)

-- ---- cases B to G, I, J: "Positions are before settlement", so users who stood at zero are moved there

unfoldable pub case_b : Hour
case_b = moved (pos 1 ∷ pos 1 ∷ pos 1 ∷ []) (terms_of 1 (pos 1) (pos 0) (pos 0))

-- "B: positions 1, 1, 1, upper threshold 1: quantities 1, 1, 0."
unfoldable pub figures_b : List Figure
figures_b =
    hour_figures 3 (opened 3) case_b
    (pos 1 ∷ pos 1 ∷ pos 0 ∷ []) (pos 0 ∷ pos 0 ∷ pos 1 ∷ []) (was_settled (day_of 3 1 false 2 0) (Excess (pos 2)) 7 3)

-- "C: -1, -1, -1, lower threshold -1: -1, -1, 0."
unfoldable pub figures_c : List Figure
figures_c =
    hour_figures 3 (opened 3) (moved (replicate 3 (neg 1)) (terms_of 1 (pos 0) (neg 1) (pos 0)))
    (neg 1 ∷ neg 1 ∷ pos 0 ∷ []) (pos 0 ∷ pos 0 ∷ neg 1 ∷ []) (was_settled (day_of 3 1 false 0 2) (Shortfall (pos 2)) 7 3)

-- "D: one user at 22,000,000, upper threshold 22,000,000: nothing."
unfoldable pub figures_d : List Figure
figures_d =
    hour_figures 1 (opened 1) (moved (pos 22_000_000 ∷ []) (terms_of 1 (pos 22_000_000) (pos 0) (pos 0)))
    (pos 0 ∷ []) (pos 22_000_000 ∷ []) (was_within (day_of 1 1 false 0 0))

-- "E: the same at 22,000,001: 1."
unfoldable pub figures_e : List Figure
figures_e =
    hour_figures 1 (opened 1) (moved (pos 22_000_001 ∷ []) (terms_of 1 (pos 22_000_000) (pos 0) (pos 0)))
    (pos 1 ∷ []) (pos 22_000_000 ∷ []) (was_settled (day_of 1 1 false 1 0) (Excess (pos 1)) 1 1)

-- "F: 5, -5, thresholds 0: nothing."
unfoldable pub figures_f : List Figure
figures_f =
    hour_figures 2 (opened 2) (moved (pos 5 ∷ neg 5 ∷ []) (terms_of 1 (pos 0) (pos 0) (pos 0)))
    (pos 0 ∷ pos 0 ∷ []) (pos 5 ∷ neg 5 ∷ []) (was_within (day_of 2 1 false 0 0))

-- "G: 5, -2, thresholds 0: 3, 0, leaving 2, -2."
unfoldable pub figures_g : List Figure
figures_g =
    hour_figures 2 (opened 2) (moved (pos 5 ∷ neg 2 ∷ []) (terms_of 1 (pos 0) (pos 0) (pos 0)))
    (pos 3 ∷ pos 0 ∷ []) (pos 2 ∷ neg 2 ∷ []) (was_settled (day_of 2 1 false 3 0) (Excess (pos 3)) 1 1)

-- "I: quantity 2 at price -100: money -200."
unfoldable pub case_i : Hour
case_i = moved (pos 2 ∷ []) (terms_of 1 (pos 0) (pos 0) (neg 100))

unfoldable pub figures_i : List Figure
figures_i =
    record { defined = money 1 (opened 1) case_i; paper = numbers (neg 200 ∷ []) }
    ∷ hour_figures 1 (opened 1) case_i (pos 2 ∷ []) (pos 0 ∷ []) (was_settled (day_of 1 1 false 2 0) (Excess (pos 2)) 1 1)

-- "J: 4, 3, 3, upper threshold 5: 2, 2, 1."
unfoldable pub figures_j : List Figure
figures_j =
    hour_figures 3 (opened 3) (moved (pos 4 ∷ pos 3 ∷ pos 3 ∷ []) (terms_of 1 (pos 5) (pos 0) (pos 0)))
    (pos 2 ∷ pos 2 ∷ pos 1 ∷ []) (pos 2 ∷ pos 1 ∷ pos 2 ∷ []) (was_settled (day_of 3 1 false 5 0) (Excess (pos 5)) 7 3)

-- ---- case H, a closing: "H starts from the table", here that of a day with 24 hours done

unfoldable pub table_h : List ℤ
table_h = pos 2 ∷ neg 2 ∷ replicate 254 (pos 0)

unfoldable pub case_h : Closing
case_h = record {
  terms = record { zone = pos 0; excess_price = pos 20_000; shortfall_price = pos 25_000 };
  quantity = replicate 2 (pos 9);
  money = replicate 2 (pos 9);
}

-- "H: closing 2, -2 at 20,000 and 25,000: money 40,000 and -50,000."
unfoldable pub figures_h : List Figure
figures_h =
    let d = day_of 2 24 false 0 0 in
    record { defined = numbers (closing_money d table_h case_h); paper = numbers (pos 40_000 ∷ neg 50_000 ∷ []) }
    ∷ record { defined = numbers (closing_quantity d table_h case_h); paper = numbers (pos 2 ∷ neg 2 ∷ []) }
    ∷ record { defined = numbers (closing_table d table_h case_h); paper = numbers (replicate 256 (pos 0)) }
    ∷ record { defined = of_closing (closing_answer d table_h case_h); paper = of_closing (Ok (record { day = day_of 2 24 true 2 2; sold = pos 2; bought = pos 2 })) }
    ∷ []

-- ---- case K goes on from where case B leaves: "K: after B, an hour of zero amounts with thresholds 0: 0, 0, 1."
unfoldable pub figures_k : List Figure
figures_k =
    hour_figures 3 (step (opened 3) (hour case_b)) (moved (replicate 3 (pos 0)) (terms_of 2 (pos 0) (pos 0) (pos 0)))
    (pos 0 ∷ pos 0 ∷ pos 1 ∷ []) (pos 0 ∷ pos 0 ∷ pos 0 ∷ []) (was_settled (day_of 3 2 false 3 0) (Excess (pos 1)) 4 1)

unfoldable pub figures : List Figure
figures =
    figures_a ++ figures_b ++ figures_c ++ figures_d ++ figures_e ++ figures_f ++ figures_g ++ figures_h ++ figures_i ++ figures_j ++ figures_k

-- each figure is as the paper says
abbrev pub AllFigures : Type 0
AllFigures = map (λ f. f.defined) figures ≡ map (λ f. f.paper) figures

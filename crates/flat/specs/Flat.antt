-- An answer as a struct that C can hold: its cause, 0 for none, and its values; what a refusal does not answer is 0. Assumes nothing.
use Rattle.std.specs.Prelude.{ℕ, ℤ, pos, Result, Ok, Err}
use Rattle.rules.specs.declared.Cause.{Cause}
use Rattle.rules.specs.declared.Day.{Day}
use Rattle.rules.specs.declared.Refusal.{Refusal}
use Rattle.rules.specs.declared.Thresholds.{Thresholds}
use Rattle.rules.specs.declared.Side.TheVariants.{Excess, Shortfall}
use Rattle.rules.specs.declared.Marks.{Marks}
use Rattle.rules.specs.declared.Outcome.{Outcome}
use Rattle.rules.specs.declared.Outcome.TheVariants.{Within, Settled}
use Rattle.rules.specs.declared.HourDone.{HourDone}
use Rattle.rules.specs.declared.ClosingDone.{ClosingDone}
use Rattle.rules.specs.Refusals.{number}
use Rattle.rules.specs.Days.{new_day}
use Rattle.allocation_row.specs.declared.FileCause.{FileCause}
use Rattle.allocation_row.specs.Causes.{number as file_number}
use Rattle.allocation_file.specs.declared.FileRead.{FileRead}
use Rattle.allocation_writer.specs.declared.WriteCause.{WriteCause}
use Rattle.allocation_writer.specs.Writer.{number as write_number}
use Rattle.record_c.specs.declared.DayC.{DayC}
use Rattle.flat.specs.declared.OpenC.{OpenC}
use Rattle.flat.specs.declared.ThresholdsC.{ThresholdsC}
use Rattle.flat.specs.declared.HourC.{HourC}
use Rattle.flat.specs.declared.JudgedC.{JudgedC}
use Rattle.flat.specs.declared.ClosingC.{ClosingC}
use Rattle.flat.specs.declared.FileC.{FileC}
use Rattle.flat.specs.declared.WrittenC.{WrittenC}
use Rattle.record_c.specs.Records.{day_for_c}

-- ---- opening: a refusal gives the record of no users and length 0

abbrev pub refused_open : ℕ → OpenC
refused_open k = record { cause = k; day = day_for_c (new_day (pos 0) (pos 0)) }

abbrev pub flat_open : Result Day Cause → OpenC
flat_open (Err k) = refused_open (number k)
flat_open (Ok d) = record { cause = 0; day = day_for_c d }

-- ---- default thresholds

abbrev pub refused_thresholds : ℕ → ThresholdsC
refused_thresholds k = record { cause = k; upper = pos 0; lower = pos 0 }

abbrev pub flat_thresholds : Result Thresholds Cause → ThresholdsC
flat_thresholds (Err k) = refused_thresholds (number k)
flat_thresholds (Ok t) = record { cause = 0; upper = t.upper; lower = t.lower }

-- ---- an hour: the side is 0 within the thresholds, 1 in an excess, 2 in a shortfall

abbrev pub settled_hour : DayC → ℕ → ℤ → Marks → HourC
settled_hour d side total m = record { cause = 0; day = d; side = side; total = total; first = m.first; second = m.second; number = m.number }

abbrev pub flat_done : DayC → Outcome → HourC
flat_done d Within = record { cause = 0; day = d; side = 0; total = pos 0; first = 0; second = 0; number = 0 }
flat_done d (Settled (Excess n) m) = settled_hour d 1 n m
flat_done d (Settled (Shortfall n) m) = settled_hour d 2 n m

-- "number, same record": the record as it was given
abbrev pub refused_hour : DayC → ℕ → HourC
refused_hour d k = record { cause = k; day = d; side = 0; total = pos 0; first = 0; second = 0; number = 0 }

-- for the record d that was given
abbrev pub flat_hour : DayC → Result HourDone Refusal → HourC
flat_hour d (Err r) = refused_hour d (number r.cause)
flat_hour d (Ok r) = flat_done (day_for_c r.day) r.outcome

-- ---- the judge

abbrev pub refused_judged : DayC → ℕ → JudgedC
refused_judged d k = record { cause = k; day = d }

abbrev pub flat_judged : DayC → Result Day Refusal → JudgedC
flat_judged d (Err r) = refused_judged d (number r.cause)
flat_judged d (Ok e) = record { cause = 0; day = day_for_c e }

-- ---- a closing

abbrev pub refused_closing : DayC → ℕ → ClosingC
refused_closing d k = record { cause = k; day = d; sold = pos 0; bought = pos 0 }

abbrev pub flat_closing : DayC → Result ClosingDone Refusal → ClosingC
flat_closing d (Err r) = refused_closing d (number r.cause)
flat_closing d (Ok r) = record { cause = 0; day = day_for_c r.day; sold = r.sold; bought = r.bought }

-- ---- the hour's file

abbrev pub refused_file : ℕ → FileC
refused_file k = record { cause = k; hour = pos 0; zone = pos 0; lines = pos 0 }

abbrev pub flat_file : Result FileRead FileCause → FileC
flat_file (Err k) = refused_file (file_number k)
flat_file (Ok f) = record { cause = 0; hour = f.hour; zone = f.zone; lines = f.lines }

-- ---- the hour's file, written

abbrev pub refused_written : ℕ → WrittenC
refused_written k = record { cause = k; bytes = pos 0 }

abbrev pub flat_written : Result ℤ WriteCause → WrittenC
flat_written (Err k) = refused_written (write_number k)
flat_written (Ok n) = record { cause = 0; bytes = n }

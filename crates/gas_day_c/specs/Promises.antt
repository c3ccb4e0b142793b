-- What each call for C promises: the same definitions as of the call that it wraps, its answer made flat. Assumes nothing.
use Rattle.std.specs.Prelude.{◌≡◌, List, ℕ, ℤ}
use Rattle.rules.specs.Hours.{Hour, Closing}
use Rattle.rules.specs.Answers.{open_answer, open_table, hour_answer, hour_table, hour_quantity, hour_money, hour_scratch}
use Rattle.rules.specs.Answers.{preview_answer, preview_quantity, preview_money, preview_after, preview_scratch}
use Rattle.rules.specs.Answers.{closing_answer, closing_table, closing_quantity, closing_money}
use Rattle.allocation_file.specs.File.{outcome, answer_of, list_of}
use Rattle.allocation_writer.specs.Writer.{Content, write_answer, written_file}
use Rattle.record_c.specs.declared.DayC.{DayC}
use Rattle.flat.specs.declared.OpenC.{OpenC}
use Rattle.flat.specs.declared.HourC.{HourC}
use Rattle.flat.specs.declared.ClosingC.{ClosingC}
use Rattle.flat.specs.declared.FileC.{FileC}
use Rattle.flat.specs.declared.WrittenC.{WrittenC}
use Rattle.record_c.specs.Records.{day_of}
use Rattle.flat.specs.Flat.{flat_open, flat_hour, flat_closing, flat_file, flat_written}

-- the interface's version
abbrev pub version : ℕ
version = 3

pub record OpenForC (n len : ℤ) (t t' : List ℤ) (r : OpenC) : Type 0 where
  pub answer : r ≡ flat_open (open_answer n len t)
  pub table : t' ≡ open_table n len t

pub record HourForC (d : DayC) (t : List ℤ) (g : Hour) (t' q' m' : List ℤ) (s' : List ℕ) (r : HourC) : Type 0 where
  pub answer : r ≡ flat_hour d (hour_answer (day_of d) t g)
  pub table : t' ≡ hour_table (day_of d) t g
  pub quantity : q' ≡ hour_quantity (day_of d) t g
  pub money : m' ≡ hour_money (day_of d) t g
  pub scratch : s' ≡ hour_scratch (day_of d) t g

pub record PreviewForC (d : DayC) (t : List ℤ) (g : Hour) (lent q' m' a' : List ℤ) (s' : List ℕ) (r : HourC) : Type 0 where
  pub answer : r ≡ flat_hour d (preview_answer (day_of d) t g lent)
  pub quantity : q' ≡ preview_quantity (day_of d) t g lent
  pub money : m' ≡ preview_money (day_of d) t g lent
  pub after : a' ≡ preview_after (day_of d) t g lent
  pub scratch : s' ≡ preview_scratch (day_of d) t g lent

pub record ClosingForC (d : DayC) (t : List ℤ) (g : Closing) (t' q' m' : List ℤ) (r : ClosingC) : Type 0 where
  pub answer : r ≡ flat_closing d (closing_answer (day_of d) t g)
  pub table : t' ≡ closing_table (day_of d) t g
  pub quantity : q' ≡ closing_quantity (day_of d) t g
  pub money : m' ≡ closing_money (day_of d) t g

pub record FileForC (s : List ℕ) (a b c d : List ℤ) (r : FileC) (a' b' c' d' : List ℤ) : Type 0 where
  pub answer : r ≡ flat_file (answer_of (outcome s a b c d))
  pub entries : a' ≡ list_of (λ w. w.entry) (outcome s a b c d) a
  pub exits : b' ≡ list_of (λ w. w.exit) (outcome s a b c d) b
  pub titles : c' ≡ list_of (λ w. w.title) (outcome s a b c d) c
  pub poolings : d' ≡ list_of (λ w. w.pooling) (outcome s a b c d) d

pub record WriteForC (w : Content) (file : List ℕ) (r : WrittenC) (file' : List ℕ) : Type 0 where
  pub answer : r ≡ flat_written (write_answer w file)
  pub bytes : file' ≡ written_file w file

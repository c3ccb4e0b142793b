-- What holds of every file, over the definitions of `allocation_file` and of the crates under it. Statements only; the proofs are in
-- proofs/Guarantees.antt, and the crate `certificate` asks for each. Assumes nothing.
use Rattle.std.specs.Prelude.{ℕ, suc, ◌+◌, ◌*◌, ◌^◌, ◌≤◌, ◌<◌, ◌≡◌, true, false, List, ◌∷◌, ◌++◌, map, ◌↔◌, ℤ, pos, negsuc, nat_abs, length, take, replicate, Some, Ok, Err}
use Rattle.integers.specs.Lists.{tabulate}
use Rattle.text.specs.Bytes.{minus_sign, point}
use Rattle.text.specs.Numbers.{digits_from, unsigned_of, has_point, amount_of}
use Rattle.csv_lines.specs.Lines.{field_at}
use Rattle.allocation_row.specs.Rows.{zone_number, row_of, follows}
use Rattle.allocation_row.specs.declared.Row.{Row}
use Rattle.allocation_row.specs.declared.Zone.{Zone}
use Rattle.allocation_row.specs.declared.FileCause.{FileCause}
use Rattle.allocation_row.specs.declared.FileCause.TheVariants.{Turn}
use Rattle.allocation_row.specs.Causes.{number}
use Rattle.allocation_lines.specs.Turns.{refused, read}
use Rattle.allocation_file.specs.File.{header, lines_of, file_of, all128, outcome, answer_of}
use Rattle.allocation_file.specs.declared.FileRead.{FileRead}

-- lines that stand in their turn, the first at place 0, in a file of the hour h and the zone z: a row for each
pub record Standing (ls : List (List ℕ)) (h z : ℕ) (rows : List Row) : Type 0 where
  -- each line by itself has the right form and well-formed fields, and these are its row
  pub each : map row_of ls ≡ map Ok rows
  -- "All lines have the first line's h and z"
  pub hours : map (λ r. r.hour) rows ≡ replicate (length rows) h
  pub zones : map (λ r. r.zone) rows ≡ replicate (length rows) z
  -- "g runs 0, 1, 2 and on, to 127 at most"
  pub places : map (λ r. r.place) rows ≡ tabulate (λ i. i) (length rows)
  pub few : length rows ≤ 128

-- the file s obeys the rules, with the hour h, the zone z and a row for each line
pub record Obeys (s : List ℕ) (h z : ℕ) (rows : List Row) : Type 0 where
  -- "The file opens with the 25 bytes"
  pub opens : take (length header) s ≡ header
  -- "At least one further line follows"
  pub some : 1 ≤ length rows
  pub standing : Standing (lines_of s) h z rows

-- "a file lent with lists of the right length is read if and only if it obeys the file rules"
abbrev pub ReadIfObeyed : Type 0
ReadIfObeyed =
    (s : List ℕ) (a b c d : List ℤ) → all128 (length a) (length b) (length c) (length d) ≡ true
    → (h z : ℕ) (rows : List Row) → (outcome s a b c d ≡ read h z rows) ↔ Obeys s h z rows

-- a line l that is refused at place k of a file of the hour h and the zone z, with its cause n: by itself (14 or 15), or in its turn (16).
-- The file's first line gives the hour and the zone
pub data Fault (h z k : ℕ) (l : List ℕ) : FileCause → Type 0 where
  by_itself : {n : FileCause} → row_of l ≡ Err n → Fault h z k l n
  in_its_turn : (r : Row) → row_of l ≡ Ok r → follows h z k r ≡ false → (k ≡ 0 → (r.hour ≡ h) × (r.zone ≡ z)) → Fault h z k l Turn

-- "the lines are taken in turn; within one line 14, then 15, then 16": the first line that is refused gives the file's cause, whatever
-- stands after it
abbrev pub FirstFaultDecides : Type 0
FirstFaultDecides =
    (s : List ℕ) (h z : ℕ) (n : FileCause) (before : List (List ℕ)) (l : List ℕ) (after : List (List ℕ)) (rows : List Row)
    → take (length header) s ≡ header
    → lines_of s ≡ before ++ l ∷ after
    → Standing before h z rows
    → Fault h z (length rows) l n
    → file_of s ≡ refused n

-- what an accepted call says of its file: it obeys the rules, the hour and the zone answered are those of every line, the zone is H or L,
-- and the number of lines answered is that of the file's lines, 1 to 128
pub record Accepted (s : List ℕ) (f : FileRead) : Type 0 where
  pub h : ℕ
  pub z : Zone
  pub rows : List Row
  pub obeys : Obeys s h (zone_number z) rows
  pub hour : f.hour ≡ pos h
  pub zone : f.zone ≡ pos (zone_number z)
  pub lines : f.lines ≡ pos (length (lines_of s))
  pub some : 1 ≤ length (lines_of s)
  pub few : length (lines_of s) ≤ 128

abbrev pub AcceptedObeys : Type 0
AcceptedObeys = (s : List ℕ) (a b c d : List ℤ) (f : FileRead) → answer_of (outcome s a b c d) ≡ Ok f → Accepted s f

-- a refused call has a cause from 12 to 17: "the reader 12 to 17"
abbrev pub CauseGiven : Type 0
CauseGiven = (s : List ℕ) (a b c d : List ℤ) (n : FileCause) → outcome s a b c d ≡ refused n → (12 ≤ number n) × (number n ≤ 17)

-- the numbers of a line by itself have at most nine digits, and its zone is 0 or 1
pub record NineDigits (r : Row) : Type 0 where
  pub hour : r.hour < 10 ^ 9
  pub zone : r.zone ≤ 1
  pub place : r.place < 10 ^ 9
  pub entry : nat_abs r.entry < 10 ^ 9
  pub exit : nat_abs r.exit < 10 ^ 9
  pub title : nat_abs r.title < 10 ^ 9
  pub pooling : nat_abs r.pooling < 10 ^ 9

abbrev pub SmallNumbers : Type 0
SmallNumbers = (l : List ℕ) (r : Row) → row_of l ≡ Ok r → NineDigits r

-- ---- the two forms of an amount: document 02, Ask 2

-- the bytes f have the size n, in kWh
pub data Size : List ℕ → ℕ → Type 0 where
  -- "A field without a point still means kWh."
  in_kwh : (f : List ℕ) (n : ℕ) → has_point f ≡ false → unsigned_of f ≡ Some n → Size f n
  -- "A field with a point has one to six digits before it, written as whole numbers are, with 0 allowed there", and "exactly three
  -- decimals": 1,000 times its whole part, and its decimals
  in_mwh : (whole decimals : List ℕ) (m d : ℕ)
      → length whole ≤ 6 → unsigned_of whole ≡ Some m
      → length decimals ≡ 3 → digits_from 0 decimals ≡ Some d
      → Size (whole ++ point ∷ decimals) (1000 * m + d)

-- the field f has the amount x: with no sign, or after a `-`, and then it is not 0 ("`-0.000` is turned away by 15, `-0.005` is read as
-- minus 5")
pub data Means : List ℕ → ℤ → Type 0 where
  unsigned : {f : List ℕ} {n : ℕ} → Size f n → Means f (pos n)
  minus : {f : List ℕ} {n : ℕ} → Size f (suc n) → Means (minus_sign ∷ f) (negsuc n)

-- "the reading rule covers both": a field is read as an amount if and only if it has that amount in one of the two forms
abbrev pub TwoForms : Type 0
TwoForms = (f : List ℕ) (x : ℤ) → (amount_of f ≡ Some x) ↔ Means f x

-- "the last four fields in MWh": no other field of a line that is read has a point
pub record NoPoints (l : List ℕ) : Type 0 where
  pub hour : has_point (field_at 0 l) ≡ false
  pub zone : has_point (field_at 1 l) ≡ false
  pub place : has_point (field_at 2 l) ≡ false

abbrev pub PointsInAmounts : Type 0
PointsInAmounts = (l : List ℕ) (r : Row) → row_of l ≡ Ok r → NoPoints l

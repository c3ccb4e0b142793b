-- The file, and the call that reads it. Assumes nothing.
use Rattle.std.specs.Prelude.{ℕ, ◌≡◌, Bool, ◌&&◌, cond, List, ◌++◌, map, eqb, ℤ, pos, length, drop, Result, Ok, Err}
use Rattle.text.specs.Bytes.{bytes}
use Rattle.csv_lines.specs.Lines.{begins, lines}
use Rattle.allocation_row.specs.declared.Row.{Row}
use Rattle.allocation_row.specs.declared.FileCause.{FileCause}
use Rattle.allocation_row.specs.declared.FileCause.TheVariants.{Lists, Header}
use Rattle.allocation_lines.specs.Turns.{File, refused, read, body_of}
use Rattle.allocation_file.specs.declared.FileRead.{FileRead}

-- ---- the file

-- "The file opens with the 25 bytes .."
abbrev pub header : List ℕ
header = bytes "h,z,g,EEA,XEA,NCTTN,IPT\r\n"

-- the lines after the header
abbrev pub lines_of : List ℕ → List (List ℕ)
lines_of s = lines (drop (length header) s)

-- the whole file: 13, then what its lines say
unfoldable pub file_of : List ℕ → File
file_of s = cond (begins s header) (body_of (lines_of s)) (refused Header)

-- ---- the call

-- "lent four lists of exactly 128 places"
abbrev pub all128 : ℕ → ℕ → ℕ → ℕ → Bool
all128 a b c d = (eqb a 128 && eqb b 128) && (eqb c 128 && eqb d 128)

-- the outcome of the call: 12 goes before all else
abbrev pub outcome : List ℕ → List ℤ → List ℤ → List ℤ → List ℤ → File
outcome s a b c d = cond (all128 (length a) (length b) (length c) (length d)) (file_of s) (refused Lists)

-- "It answers h, z as the zone's number, and the number of lines", all as signed numbers
abbrev pub answered : ℕ → ℕ → ℕ → FileRead
answered h z n = record { hour = pos h; zone = pos z; lines = pos n }

-- document 01's cause of a refusal, and its three values for a file that is read
abbrev pub answer_of : File → Result FileRead FileCause
answer_of (refused c) = Err c
answer_of (read h z rs) = Ok (answered h z (length rs))

-- a list lent, after the call: it "fills the first as many as there are lines and touches no others"; a refusal leaves it as it was
abbrev pub list_of : (Row → ℤ) → File → List ℤ → List ℤ
list_of f (refused c) xs = xs
list_of f (read h z rs) xs = map f rs ++ drop (length rs) xs

-- the call's contract: the answer r to the file s, and the lists a b c d after it
pub record ReadHour (s : List ℕ) (a b c d : List ℤ) (r : Result FileRead FileCause) (a' b' c' d' : List ℤ) : Type 0 where
  pub answer : r ≡ answer_of (outcome s a b c d)
  pub entries : a' ≡ list_of (λ w. w.entry) (outcome s a b c d) a
  pub exits : b' ≡ list_of (λ w. w.exit) (outcome s a b c d) b
  pub titles : c' ≡ list_of (λ w. w.title) (outcome s a b c d) c
  pub poolings : d' ≡ list_of (λ w. w.pooling) (outcome s a b c d) d

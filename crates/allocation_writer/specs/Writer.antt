-- The text of an hour's file, and the call that writes it. Assumes nothing.
use Rattle.std.specs.Prelude.{ℕ, ◌≡◌, Bool, ◌&&◌, List, [], ◌∷◌, ◌++◌, map, eqb, leb, ℤ, pos, nat_abs, length, get_or, drop, Result, Ok}
use Rattle.std.specs.Int.Signed.{le_z}
use Rattle.integers.specs.Lists.{every, tabulate}
use Rattle.integers.specs.Ranges.{natural}
use Rattle.rules.specs.declared.Amounts.{Amounts}
use Rattle.rules.specs.Limits.{users_fit, zone_fit}
use Rattle.rules.specs.Refusals.{unless, ◌then◌, by_cause}
use Rattle.text.specs.Bytes.{line_end}
use Rattle.text.specs.Decimals.{digits}
use Rattle.allocation_row.specs.declared.Row.{Row}
use Rattle.allocation_file.specs.File.{header}
use Rattle.allocation_text.specs.Text.{line_text}
use Rattle.allocation_writer.specs.declared.WriteCause.{WriteCause}
use Rattle.allocation_writer.specs.declared.WriteCause.TheVariants.{Counts, Digits, Room}

-- what is to be written: "hour, zone, user count and four lists"
pub record Content : Type 0 where
  pub hour : ℤ
  pub zone : ℤ
  pub users : ℤ
  pub entry : List ℤ
  pub exit : List ℤ
  pub title : List ℤ
  pub pooling : List ℤ

-- the same from the call's parameters, the amounts as four lists, as C gives them, or as one struct
abbrev pub content_listed : ℤ → ℤ → ℤ → List ℤ → List ℤ → List ℤ → List ℤ → Content
content_listed h z n a b c d = record { hour = h; zone = z; users = n; entry = a; exit = b; title = c; pooling = d }

abbrev pub content : ℤ → ℤ → ℤ → Amounts → Content
content h z n a = content_listed h z n a.entries.now a.exits.now a.titles.now a.poolings.now

-- ---- the text

-- the row at place k
unfoldable pub row_at : Content → ℕ → Row
row_at w k = record {
  hour = natural w.hour;
  zone = natural w.zone;
  place = k;
  entry = get_or w.entry k (pos 0);
  exit = get_or w.exit k (pos 0);
  title = get_or w.title k (pos 0);
  pooling = get_or w.pooling k (pos 0);
}

-- "g runs 0, 1, 2 and on": a row for each user
unfoldable pub rows_of : Content → List Row
rows_of w = tabulate (row_at w) (natural w.users)

-- "Every line ends in CR LF"
unfoldable pub ended : List (List ℕ) → List ℕ
ended [] = []
ended (l ∷ ls) = l ++ line_end ++ ended ls

-- "the file of document 01": the header, and a line for each row
unfoldable pub file_text : List Row → List ℕ
file_text rows = header ++ ended (map line_text rows)

unfoldable pub text_of : Content → List ℕ
text_of w = file_text (rows_of w)

-- ---- the causes: each a test that holds where its cause does not apply

-- 18: "if the count is not 1 to 128, the zone not 0 or 1, or a list is not of the count's length"
unfoldable pub of_count : ℤ → List ℤ → Bool
of_count users xs = eqb (length xs) (natural users)

unfoldable pub lists_fit : Content → Bool
lists_fit w = of_count w.users w.entry && (of_count w.users w.exit && (of_count w.users w.title && of_count w.users w.pooling))

unfoldable pub count_fit : Content → Bool
count_fit w = users_fit w.users && (zone_fit w.zone && lists_fit w)

-- 19: "if the hour or an amount has more than nine digits or the hour is negative"
unfoldable pub nine_digits : ℤ → Bool
nine_digits x = leb (length (digits (nat_abs x))) 9

unfoldable pub hour_fit : ℤ → Bool
hour_fit hour = nine_digits hour && le_z (pos 0) hour

unfoldable pub amounts_short : Content → Bool
amounts_short w = every nine_digits w.entry && (every nine_digits w.exit && (every nine_digits w.title && every nine_digits w.pooling))

unfoldable pub numbers_fit : Content → Bool
numbers_fit w = hour_fit w.hour && amounts_short w

-- 20: "if the lent bytes are too few"
unfoldable pub room_for : Content → List ℕ → Bool
room_for w file = leb (length (text_of w)) (length file)

-- the number of each
abbrev pub number : WriteCause → ℕ
number Counts = 18
number Digits = 19
number Room = 20

-- the first that applies, and `Ok tt` for none
unfoldable pub write_cause : Content → List ℕ → Result Unit WriteCause
write_cause w file = unless (count_fit w) Counts then unless (numbers_fit w) Digits then unless (room_for w file) Room

-- ---- the call

-- document 01: "a refusal returns the number"; "an accepted call that writes bytes answers how many"
unfoldable pub write_answer : Content → List ℕ → Result ℤ WriteCause
write_answer w file = write_cause w file then Ok (pos (length (text_of w)))

-- document 01: "and the lent bytes after them are as they were"; after a refusal "everything lent is as it was"
unfoldable pub written_file : Content → List ℕ → List ℕ
written_file w file = by_cause (write_cause w file) (text_of w ++ drop (length (text_of w)) file) file

-- the call's contract: the answer r, and the bytes lent after it
pub record WriteHour (w : Content) (file : List ℕ) (r : Result ℤ WriteCause) (file' : List ℕ) : Type 0 where
  pub answer : r ≡ write_answer w file
  pub bytes : file' ≡ written_file w file

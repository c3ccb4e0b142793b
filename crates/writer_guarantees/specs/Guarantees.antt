-- What holds of every file that is written, by the writer's definitions and by the reader's. Statements only; the proofs are in
-- proofs/Guarantees.antt, and the crate `certificate` asks for each. Assumes nothing.
use Rattle.std.specs.Prelude.{ℕ, ◌+◌, ◌*◌, ◌-◌, ◌^◌, ◌≤◌, ◌≡◌, true, false, List, ◌++◌, ◌⊎◌, ◌↔◌, ℤ, pos, length, take, drop, Result, Ok, Err}
use Rattle.integers.specs.Ranges.{natural}
use Rattle.integers.specs.Lists.{AtMost}
use Rattle.rules.specs.Limits.{users_most}
use Rattle.text.specs.Bytes.{line_end}
use Rattle.text.specs.Numbers.{has_point}
use Rattle.allocation_row.specs.declared.FileCause.{FileCause}
use Rattle.allocation_file.specs.File.{header, all128, ReadHour}
use Rattle.allocation_file.specs.declared.FileRead.{FileRead}
use Rattle.allocation_writer.specs.declared.WriteCause.{WriteCause}
use Rattle.allocation_writer.specs.Writer.{Content, text_of, number, write_cause, WriteHour}

-- ---- what is written

-- the largest number of nine digits
abbrev pub nine_digits_most : ℕ
nine_digits_most = 10 ^ 9 - 1

-- neither 18 nor 19 turns the content away
pub record Fit (w : Content) : Type 0 where
  -- 18: the count is 1 to 128,
  pub count : ℕ
  pub users : w.users ≡ pos count
  pub some : 1 ≤ count
  pub few : count ≤ users_most
  -- the zone 0 or 1,
  pub zone : (w.zone ≡ pos 0) ⊎ (w.zone ≡ pos 1)
  -- and each list of the count's length
  pub entry : length w.entry ≡ count
  pub exit : length w.exit ≡ count
  pub title : length w.title ≡ count
  pub pooling : length w.pooling ≡ count
  -- 19: the hour is not negative and of at most nine digits,
  pub h : ℕ
  pub hour : w.hour ≡ pos h
  pub short : h ≤ nine_digits_most
  -- and so is every amount's size
  pub entries : AtMost nine_digits_most w.entry
  pub exits : AtMost nine_digits_most w.exit
  pub titles : AtMost nine_digits_most w.title
  pub poolings : AtMost nine_digits_most w.pooling

-- "Every amount of up to nine digits can be written": a content is written if and only if none of the three causes exists
abbrev pub WrittenIfFit : Type 0
WrittenIfFit = (w : Content) (file : List ℕ) → (write_cause w file ≡ Ok tt) ↔ (Fit w × (length (text_of w) ≤ length file))

-- a call that is refused has one of the three causes
abbrev pub CauseOfThree : Type 0
CauseOfThree =
    (w : Content) (file : List ℕ)
    → (write_cause w file ≡ Ok tt) ⊎ ((k : WriteCause) × (write_cause w file ≡ Err k) × ((18 ≤ number k) × (number k ≤ 20)))

-- so many bytes are enough for every file: 25 for the header, and 61 for each of at most 128 lines (the hour 9, the letter 1, the place 3, four amounts of 10, six commas,
-- CR LF)
abbrev pub bytes_most : ℕ
bytes_most = length header + 61 * users_most

abbrev pub EnoughBytes : Type 0
EnoughBytes = (w : Content) → Fit w → length (text_of w) ≤ bytes_most

-- ---- what is written is read

-- the reader's answer r and its lists a' b' c' d' after it have the content w: "the same hour, zone and amounts"; beyond them the lists are as they were lent
pub record ReadBack (w : Content) (a b c d : List ℤ) (r : Result FileRead FileCause) (a' b' c' d' : List ℤ) : Type 0 where
  pub answer : r ≡ Ok (record { hour = w.hour; zone = w.zone; lines = w.users })
  pub entries : a' ≡ w.entry ++ drop (length w.entry) a
  pub exits : b' ≡ w.exit ++ drop (length w.exit) b
  pub titles : c' ≡ w.title ++ drop (length w.title) c
  pub poolings : d' ≡ w.pooling ++ drop (length w.pooling) d

-- "Every amount of up to nine digits can be written, and what is written is read to the same hour, zone and amounts": of every content that neither
-- 18 nor 19 turns away, with any four lists of 128 places
abbrev pub RoundTrip : Type 0
RoundTrip =
    (w : Content) → Fit w
    → (a b c d : List ℤ) → all128 (length a) (length b) (length c) (length d) ≡ true
    → (r : Result FileRead FileCause) (a' b' c' d' : List ℤ) → ReadHour (text_of w) a b c d r a' b' c' d'
    → ReadBack w a b c d r a' b' c' d'

-- the two calls together: what an accepted writer leaves in the first bytes, as many as it answers, is read back
abbrev pub WrittenIsRead : Type 0
WrittenIsRead =
    (w : Content) (file file' : List ℕ) (n : ℤ) → WriteHour w file (Ok n) file'
    → (a b c d : List ℤ) → all128 (length a) (length b) (length c) (length d) ≡ true
    → (r : Result FileRead FileCause) (a' b' c' d' : List ℤ) → ReadHour (take (natural n) file') a b c d r a' b' c' d'
    → ReadBack w a b c d r a' b' c' d'

-- ---- what is read has one text without a point

-- what a call read: the hour, the zone and the number of lines that it answered, and the first as many places of each list after it
abbrev pub content_read : FileRead → List ℤ → List ℤ → List ℤ → List ℤ → Content
content_read f a b c d =
    let n = natural f.lines in
    record {
      hour = f.hour;
      zone = f.zone;
      users = f.lines;
      entry = take n a;
      exit = take n b;
      title = take n c;
      pooling = take n d;
    }

-- neither 18 nor 19 turns the content away, and its text is the file
pub record WrittenAgain (w : Content) (s : List ℕ) : Type 0 where
  pub fit : Fit w
  pub text : text_of w ≡ s

-- a file without a point that is read and that ends in CR LF is the text of what was read: so such a file and its content determine each
-- other. ("The writer, and its agreement with the reader, keep to kWh": a file with a point has amounts in MWh, and is not what is written)
abbrev pub OneText : Type 0
OneText =
    (s before : List ℕ) → s ≡ before ++ line_end → has_point s ≡ false
    → (a b c d : List ℤ) (f : FileRead) (a' b' c' d' : List ℤ) → ReadHour s a b c d (Ok f) a' b' c' d'
    → WrittenAgain (content_read f a' b' c' d') s

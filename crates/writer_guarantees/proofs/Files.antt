-- A content's text obeys the rules of a file; and of a file that obeys them the rows can be written, and are the file if it ends in CR LF and has no
-- point. Assumes nothing.
use mathlib.Core.Path.{◌≡◌, refl, ap, ◌∙◌}
use mathlib.Core.Bool.{Bool, true, false}
use mathlib.Core.List.{List, [], ◌∷◌, ◌++◌, map}
use Prim.Native.Nat.{ℕ, ◌^◌, ◌≤◌, ◌<◌, zero-le}
use native.Mathlib.Omega.{arith}
use lib.Dec.{leb}
use lib.IntN.{ℤ, pos, nat_abs}
use lib.ListN.{length, get_or, drop, replicate, length-append, length-map, take-append-drop}
use lib.Seq.{drop-append-le, get_or_at}
use borrow.Author.Tests.{leb-true, leb-false}
use Rattle.integers.specs.Lists.{AtMost}
use Rattle.integers.specs.Ranges.{natural}
use Rattle.integers.proofs.Sums.{at_most_cons}
use Rattle.text.specs.Bytes.{carriage_return, line_feed, line_end}
use Rattle.text.specs.Numbers.{has_point}
use Rattle.csv_lines.specs.Lines.{lines}
use Rattle.allocation_row.specs.declared.Row.{Row}
use Rattle.allocation_file.specs.File.{header, lines_of}
use Rattle.allocation_writer.specs.Writer.{Content, rows_of, ended, file_text, text_of}
use Rattle.allocation_writer.specs.Steps.{Counted, Fitting}
use Rattle.allocation_writer.proofs.Tests.{counted_means}
use Rattle.file_guarantees.specs.Guarantees.{NineDigits, Obeys}
use Rattle.writer_guarantees.specs.Guarantees.{nine_digits_most, Fit}
use Rattle.writer_guarantees.proofs.Lists.{All}
use Rattle.writer_guarantees.proofs.Fitting.{zone_is, fit_counted}
use Rattle.writer_guarantees.proofs.Points.{NoPoint, no_point_parts, lines_no_point}
use Rattle.writer_guarantees.proofs.Lines.{ended-lines}
use Rattle.writer_guarantees.proofs.Rows.{lines_back, rows_back, rows_text, rows_nine}
use Rattle.writer_guarantees.proofs.Contents.{rows_short, columns, same_columns, rows-length}

-- ---- the text of a content
pub text_obeys : (w : Content) → Counted w → Fitting w → Obeys (text_of w) (natural w.hour) (natural w.zone) (rows_of w)
unfolding file_text text_of
text_obeys w c f =
    let k = columns w c in
    let n = rows-length w in
    record {
      opens = refl;
      some = omega (arith, c.some);
      standing = record {
        each = rw (lines_back (rows_of w)) (rows_back (rows_of w) (rows_short w c f));
        hours = rw n k.hours;
        zones = rw n k.zones;
        places = rw n k.places;
        few = omega (arith, c.few);
      };
    }

-- ---- the rows of a file that obeys the rules

-- where bytes stand after the header, the file's last CR LF does too: else its CR were the header's last byte, which is an LF
rest_ends : (rest before : List ℕ) → header ++ rest ≡ before ++ line_end → 1 ≤ length rest → rest ≡ drop (length header) before ++ line_end
unfolding line_end
rest_ends rest before e h = go (leb (length header) (length before)) refl
  where
    go : (b : Bool) → leb (length header) (length before) ≡ b → rest ≡ drop (length header) before ++ line_end
    go true l = ap (drop (length header)) e ∙ drop-append-le (length header) before line_end (leb-true _ _ l)
    go false l =
        let long : length before ≡ 24 = omega (arith, leb-false (length header) (length before) l, simp length-append at (ap length e)) in
        let q : line_feed ≡ carriage_return = ap (λ (s : List ℕ). get_or s 24 0) e ∙ get_or_at before carriage_return (line_feed ∷ []) 0 24 long in
        absurd (omega arith)

-- no bytes have no lines
some_bytes : (s : List ℕ) → 1 ≤ length (lines s) → 1 ≤ length s
some_bytes [] h = h
some_bytes (x ∷ s) h = omega arith

-- the content of rows, in a file of the hour h and the zone z
abbrev pub content_of : ℕ → ℕ → List Row → Content
content_of h z rows = record {
  hour = pos h;
  zone = pos z;
  users = pos (length rows);
  entry = map (λ r. r.entry) rows;
  exit = map (λ r. r.exit) rows;
  title = map (λ r. r.title) rows;
  pooling = map (λ r. r.pooling) rows;
}

-- where the hour and the zone are those of each row, they are as small as the first row's
first_small : (h z : ℕ) (rows : List Row) → 1 ≤ length rows → All NineDigits rows
    → map (λ r. r.hour) rows ≡ replicate (length rows) h → map (λ r. r.zone) rows ≡ replicate (length rows) z
    → (h < 10 ^ 9) × (z ≤ 1)
first_small h z [] l n p q = absurd (omega arith)
first_small h z (r ∷ rows) l n p q =
    let hour : r.hour ≡ h = cc in
    let zone : r.zone ≡ z = cc in
    (omega (arith, n.0.hour), omega (arith, n.0.zone))

-- a column of small amounts
column : (f : Row → ℤ) → ((r : Row) → NineDigits r → nat_abs (f r) < 10 ^ 9) → (rows : List Row) → All NineDigits rows → AtMost nine_digits_most (map f rows)
column f g [] n = record { at = λ i. zero-le }
column f g (r ∷ rows) n = at_most_cons (omega (arith, g r n.0)) (column f g rows n.1)

module _ {s : List ℕ} {h z : ℕ} {rows : List Row} (o : Obeys s h z rows) where
  -- their text is the file, if it has no point
  pub file_text_lem : (before : List ℕ) → s ≡ before ++ line_end → NoPoint s → file_text rows ≡ s
  unfolding file_text
  file_text_lem before e h =
      let rest = drop (length header) s in
      let whole : header ++ rest ≡ s = rw o.opens at (take-append-drop (length header) s) in
      let many : length (lines rest) ≡ length rows = simp length-map at (ap length o.standing.each) in
      let some : 1 ≤ length (lines rest) = omega (arith, o.some) in
      let ends = rest_ends rest before (whole ∙ e) (some_bytes rest some) in
      let again : ended (lines rest) ≡ rest = rw ends (ended-lines (drop (length header) before)) in
      let none = (no_point_parts header rest (ap has_point whole ∙ h)).1 in
      let are = rows_text (lines_of s) rows (lines_no_point (lines rest) (ap has_point again ∙ none)) o.standing.each in
      rw (← are) (ap (λ l. header ++ l) again ∙ whole)

  -- their numbers are small
  nine : All NineDigits rows
  nine = rows_nine (lines_of s) rows o.standing.each

  -- and so are the hour and the zone
  small : (h < 10 ^ 9) × (z ≤ 1)
  small = first_small h z rows o.some nine o.standing.hours o.standing.zones

  -- neither 18 nor 19 turns their content away
  pub again_fit : Fit (content_of h z rows)
  again_fit = record {
    count = length rows;
    users = refl;
    some = o.some;
    few = o.standing.few;
    zone = zone_is (pos z) z refl small.1;
    entry = length-map rows _;
    exit = length-map rows _;
    title = length-map rows _;
    pooling = length-map rows _;
    h = h;
    hour = refl;
    short = omega (arith, small.0);
    entries = column (λ r. r.entry) (λ r n. n.entry) rows nine;
    exits = column (λ r. r.exit) (λ r n. n.exit) rows nine;
    titles = column (λ r. r.title) (λ r n. n.title) rows nine;
    poolings = column (λ r. r.pooling) (λ r n. n.pooling) rows nine;
  }

  -- and its rows are those of the file
  pub again_rows : rows_of (content_of h z rows) ≡ rows
  unfolding natural
  again_rows =
      let w = content_of h z rows in
      let t = o.standing in
      same_columns w (rows_of w) rows (columns w (counted_means w (fit_counted w again_fit)))
      (record { hours = t.hours; zones = t.zones; places = t.places; entries = refl; exits = refl; titles = refl; poolings = refl })

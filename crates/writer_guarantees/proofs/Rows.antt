-- Writing a row as a line and reading the line are inverse. Assumes nothing.
use mathlib.Core.Path.{◌≡◌, refl, sym, ap, ◌∙◌}
use mathlib.Core.Bool.{Bool, true, false, cond}
use mathlib.Core.List.{List, [], ◌∷◌, map, map-id}
use Prim.Native.Nat.{ℕ, ◌<◌}
use native.Mathlib.Omega.{arith}
use lib.Dec.{eqb}
use lib.ListN.{length}
use borrow.Author.Tests.{eqb-true, ne_eqb}
use Rattle.std.specs.Prelude.{Some, None, Ok, Err, ok_or}
use Rattle.integers.specs.Lists.{every, tabulate}
use Rattle.integers.proofs.Tests.{and_true}
use Rattle.text.specs.Bytes.{comma, quote_mark, carriage_return, line_feed}
use Rattle.text.specs.Numbers.{has_point}
use Rattle.csv_lines.specs.Lines.{fields, field_at, lines}
use Rattle.allocation_row.specs.Rows.{is_plain, is_form, letter, zone_number, zone_of, as_row, row_of, fields_of as row_fields}
use Rattle.allocation_row.specs.declared.Row.{Row}
use Rattle.allocation_row.specs.declared.Zone.{Zone}
use Rattle.allocation_row.specs.declared.Zone.TheVariants.{H, L}
use Rattle.allocation_row.specs.declared.FileCause.TheVariants.{Form, Field}
use Rattle.allocation_text.specs.Text.{zone_by, field_texts, joined, line_text}
use Rattle.allocation_writer.specs.Writer.{ended}
use Rattle.file_guarantees.specs.Guarantees.{NineDigits}
use Rattle.file_guarantees.proofs.Rows.{MadeOf, made_of}
use Rattle.file_guarantees.proofs.Guarantees.{small_numbers}
use Rattle.writer_guarantees.proofs.Lists.{All, Above, above-less, all_every, tabulate_own}
use Rattle.writer_guarantees.proofs.Fitting.{zone_again, number_again}
use Rattle.writer_guarantees.proofs.Numbers.{unsigned_back, unsigned_text, amount_back, amount_text, digits_above, decimal-above}
use Rattle.writer_guarantees.proofs.Sizes.{Short}
use Rattle.writer_guarantees.proofs.Points.{NoPoint, field_no_point}
use Rattle.writer_guarantees.proofs.Fields.{fields-joined, joined-fields, joined-above}
use Rattle.writer_guarantees.proofs.Lines.{line-ended}

-- ---- the zone's letter

-- written and read
zone_back : (z : Zone) → zone_of (letter z ∷ []) ≡ Some z
zone_back H = refl
zone_back L = refl

-- read and written
zone_text_lem : (f : List ℕ) (z : Zone) → zone_of f ≡ Some z → f ≡ letter z ∷ []
zone_text_lem [] z e = let q : ◌≡◌ {A = ℕ} 0 1 = cc in absurd (omega arith)
zone_text_lem (x ∷ []) z e = go (eqb x (letter H)) (eqb x (letter L)) refl refl e
  where
    go : (a b : Bool) → eqb x (letter H) ≡ a → eqb x (letter L) ≡ b → cond a (Some H) (cond b (Some L) None) ≡ Some z → x ∷ [] ≡ letter z ∷ []
    go true b h l e = let q : H ≡ z = cc in rw (eqb-true x (letter H) h, ← q)
    go false true h l e = let q : L ≡ z = cc in rw (eqb-true x (letter L) l, ← q)
    go false false h l e = let q : ◌≡◌ {A = ℕ} 0 1 = cc in absurd (omega arith)
zone_text_lem (x ∷ y ∷ ys) z e = let q : ◌≡◌ {A = ℕ} 0 1 = cc in absurd (omega arith)

-- and by its number
zone_text_by : (f : List ℕ) (z : Zone) (n : ℕ) → zone_of f ≡ Some z → zone_number z ≡ n → f ≡ letter (zone_by n) ∷ []
zone_text_by f z n e q = zone_text_lem f z e ∙ rw (← q, zone_again z)

-- a letter is above the comma
letter-above : (z : Zone) → comma < letter z
letter-above H = omega arith
letter-above L = omega arith

-- ---- the line of a row

-- every byte of its fields is above the comma
fields-above : (r : Row) → All (Above comma) (field_texts r)
unfolding field_texts
fields-above r =
    let d = decimal-above in
    (digits_above _, ((letter-above (zone_by r.zone), tt), (digits_above _, (d _, (d _, (d _, (d _, tt)))))))

-- every byte of it is above the quote mark
line-above : (r : Row) → Above quote_mark (line_text r)
unfolding line_text
line-above r = joined-above (field_texts r) (fields-above r)

-- and such bytes are plain
plain : (l : List ℕ) → Above quote_mark l → every is_plain l ≡ true
plain l a = rw map-id at (all_every _ (λ x. x) is_plain byte l a)
  where
    byte : (x : ℕ) → quote_mark < x → is_plain x ≡ true
    byte x h =
        let no-quote : x ≡ quote_mark → ⊥ = λ e. omega arith in
        let no_cr : x ≡ carriage_return → ⊥ = λ e. omega arith in
        let no_lf : x ≡ line_feed → ⊥ = λ e. omega arith in
        rw (ne_eqb _ _ no-quote, ne_eqb _ _ no_cr, ne_eqb _ _ no_lf)

-- its fields
line-fields : (r : Row) → fields (line_text r) ≡ field_texts r
unfolding field_texts line_text
line-fields r = fields-joined _ _ (fields-above r)

-- written and read
row_back : (r : Row) → NineDigits r → row_of (line_text r) ≡ Ok r
unfolding as_row field_texts
row_back r n =
    rw (
      plain (line_text r) (line-above r),
      line-fields r,
      unsigned_back r.hour n.hour,
      zone_back (zone_by r.zone),
      unsigned_back r.place n.place,
      amount_back r.entry n.entry,
      amount_back r.exit n.exit,
      amount_back r.title n.title,
      amount_back r.pooling n.pooling,
      number_again r.zone n.zone,
    )

-- a line that is read has the right form
form : (l : List ℕ) (r : Row) → row_of l ≡ Ok r → is_form l ≡ true
form l r e = go (is_form l) e
  where
    go : (b : Bool) → cond b (ok_or (row_fields l) Field) (Err Form) ≡ Ok r → b ≡ true
    go true e = refl
    go false e = let q : ◌≡◌ {A = ℕ} 0 1 = cc in absurd (omega arith)

-- read and written, if it has no point
row_text : (l : List ℕ) (r : Row) → has_point l ≡ false → row_of l ≡ Ok r → l ≡ line_text r
unfolding tabulate field_texts line_text
row_text l r h e =
    let m : MadeOf l r = rw e at (made_of l) in
    let p = field_no_point l h in
    let seven = eqb-true (length (fields l)) 7 (and_true (every is_plain l) (eqb (length (fields l)) 7) (form l r e)).1 in
    let all = rw seven at (tabulate_own [] (fields l)) in
    let are : fields l ≡ field_texts r = sym all ∙ rw (
      unsigned_text (field_at 0 l) r.hour m.hour,
      zone_text_by (field_at 1 l) m.said r.zone m.says m.zone,
      unsigned_text (field_at 2 l) r.place m.place,
      amount_text (field_at 3 l) r.entry (p 3) m.entry,
      amount_text (field_at 4 l) r.exit (p 4) m.exit,
      amount_text (field_at 5 l) r.title (p 5) m.title,
      amount_text (field_at 6 l) r.pooling (p 6) m.pooling,
    ) in
    sym (joined-fields l) ∙ ap joined are

-- ---- rows and their lines

-- their lines ended and parted
pub lines_back : (rows : List Row) → lines (ended (map line_text rows)) ≡ map line_text rows
unfolding ended
lines_back [] = refl
lines_back (r ∷ rows) =
    let above = above-less carriage_return quote_mark (omega arith) (line_text r) (line-above r) in
    line-ended (line_text r) (ended (map line_text rows)) above ∙ rw (lines_back rows)

-- written and read
pub rows_back : (rows : List Row) → All Short rows → map row_of (map line_text rows) ≡ map Ok rows
rows_back [] n = refl
rows_back (r ∷ rows) n = rw (row_back r n.0.nine, rows_back rows n.1)

-- read and written, if they have no point
pub rows_text : (ls : List (List ℕ)) (rows : List Row) → All NoPoint ls → map row_of ls ≡ map Ok rows → ls ≡ map line_text rows
rows_text [] [] h e = refl
rows_text [] (r ∷ rows) h e = let q : ◌≡◌ {A = ℕ} 0 1 = cc in absurd (omega arith)
rows_text (l ∷ ls) [] h e = let q : ◌≡◌ {A = ℕ} 0 1 = cc in absurd (omega arith)
rows_text (l ∷ ls) (r ∷ rows) h e = cc (row_text l r h.0 (cc), rows_text ls rows h.1 (cc))

-- rows that are read have small numbers
pub rows_nine : (ls : List (List ℕ)) (rows : List Row) → map row_of ls ≡ map Ok rows → All NineDigits rows
rows_nine ls [] e = tt
rows_nine [] (r ∷ rows) e = let q : ◌≡◌ {A = ℕ} 0 1 = cc in absurd (omega arith)
rows_nine (l ∷ ls) (r ∷ rows) e = (small_numbers l r (cc), rows_nine ls rows (cc))

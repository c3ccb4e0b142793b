-- The proofs of specs/Guarantees.antt. Assumes nothing.
use mathlib.Core.Path.{◌≡◌, refl, sym, ap, ◌∙◌, subst}
use mathlib.Core.Bool.{Bool, true, false, cond}
use mathlib.Core.List.{List, ◌++◌, map}
use mathlib.Core.Logic.{◌⊎◌, inl, inr}
use Prim.Native.Nat.{ℕ, ◌≤◌}
use native.Mathlib.Omega.{arith}
use lib.IntN.{ℤ, pos}
use lib.ListN.{length, take, drop, length-map}
use lib.Seq.{take_at, take-append_seam}
use borrow.Author.Tests.{le-leb}
use Rattle.integers.specs.Ranges.{natural}
use Rattle.std.specs.Prelude.{Ok, Err}
use Rattle.rules.proofs.Refusing.{then_none, by_none, cause_of}
use Rattle.allocation_row.specs.declared.Row.{Row}
use Rattle.allocation_row.specs.declared.FileCause.TheVariants.{Lists}
use Rattle.allocation_lines.specs.Turns.{File, refused, read}
use Rattle.allocation_file.specs.File.{file_of, all128, outcome, answer_of, list_of, ReadHour}
use Rattle.allocation_writer.specs.Writer.{rows_of, file_text, text_of, number, room_for, write_cause, write_answer, written_file}
use Rattle.allocation_writer.specs.declared.WriteCause.{WriteCause}
use Rattle.allocation_writer.specs.declared.WriteCause.TheVariants.{Counts, Digits, Room}
use Rattle.allocation_writer.proofs.Calls.{accepts}
use Rattle.allocation_writer.proofs.Tests.{counted_means, fitting_means}
use Rattle.file_guarantees.proofs.Guarantees.{read_if_obeyed}
use Rattle.writer_guarantees.specs.Guarantees.{Fit, WrittenIfFit, CauseOfThree, EnoughBytes, RoundTrip, WrittenIsRead, content_read, WrittenAgain, OneText}
use Rattle.writer_guarantees.proofs.Contents.{rows_short, columns, rows-length}
use Rattle.writer_guarantees.proofs.Fitting.{tests_fit, fit_counted, fit_numbers}
use Rattle.writer_guarantees.proofs.Sizes.{lines_short}
use Rattle.writer_guarantees.proofs.Files.{text_obeys, file_text_lem, again_fit, again_rows}

-- ---- what is written

pub written_if_fit : WrittenIfFit
unfolding room_for write_cause
written_if_fit w file = (from, to)
  where
    from : write_cause w file ≡ Ok tt → Fit w × (length (text_of w) ≤ length file)
    from e = let a = accepts w file e in (tests_fit w a.counts a.numbers, a.room)

    to : Fit w × (length (text_of w) ≤ length file) → write_cause w file ≡ Ok tt
    to p = rw (fit_counted w p.0, fit_numbers w p.0, le-leb _ _ p.1)

pub cause_of_three : CauseOfThree
cause_of_three w file = go (cause_of (write_cause w file))
  where
    within : (k : WriteCause) → (18 ≤ number k) × (number k ≤ 20)
    within Counts = (omega arith, omega arith)
    within Digits = (omega arith, omega arith)
    within Room = (omega arith, omega arith)

    go : (write_cause w file ≡ Ok tt) ⊎ ((k : WriteCause) × (write_cause w file ≡ Err k))
        → (write_cause w file ≡ Ok tt) ⊎ ((k : WriteCause) × (write_cause w file ≡ Err k) × ((18 ≤ number k) × (number k ≤ 20)))
    go (inl e) = inl e
    go (inr p) = inr (p.0, p.1, within p.0)

pub enough_bytes : EnoughBytes
unfolding file_text text_of
enough_bytes w f =
    let c = counted_means w (fit_counted w f) in
    let few = lines_short (rows_of w) (rows_short w c (fitting_means w (fit_numbers w f))) in
    omega (arith, few, rows-length w, c.few)

-- ---- what is written is read

-- a list after the call, by its column
list_read : (f : Row → ℤ) (h z : ℕ) (rows : List Row) (xs a : List ℤ) → map f rows ≡ xs → list_of f (read h z rows) a ≡ xs ++ drop (length xs) a
list_read f h z rows xs a e = rw (← e, length-map)

pub round_trip : RoundTrip
round_trip w f a b c d long r a' b' c' d' t =
    let h = natural w.hour in
    let z = natural w.zone in
    let rows = rows_of w in
    let k = counted_means w (fit_counted w f) in
    let n = fitting_means w (fit_numbers w f) in
    let m = columns w k in
    let q : outcome (text_of w) a b c d ≡ read h z rows = (read_if_obeyed (text_of w) a b c d long h z rows).1 (text_obeys w k n) in
    record {
      answer = t.answer ∙ rw (q, n.hour, k.zone, rows-length w, k.users);
      entries = t.entries ∙ rw q (list_read _ h z rows w.entry a m.entries);
      exits = t.exits ∙ rw q (list_read _ h z rows w.exit b m.exits);
      titles = t.titles ∙ rw q (list_read _ h z rows w.title c m.titles);
      poolings = t.poolings ∙ rw q (list_read _ h z rows w.pooling d m.poolings);
    }

pub written_is_read : WrittenIsRead
unfolding natural write_answer written_file
written_is_read w file file' n t a b c d long r a' b' c' d' h =
    let k = then_none (sym t.answer) in
    let accepted = accepts w file k.0 in
    let many : n ≡ pos (length (text_of w)) = cc in
    let bytes = t.bytes ∙ by_none _ _ _ k.0 in
    let text : take (natural n) file' ≡ text_of w = rw (many, bytes) (take-append_seam (text_of w) _) in
    round_trip w (tests_fit w accepted.counts accepted.numbers) a b c d long r a' b' c' d' (subst (λ (s : List ℕ). ReadHour s a b c d r a' b' c' d') text h)

-- ---- what is read has one text without a point

-- a call that has read was lent lists of 128 places
right_lists : (b : Bool) (s : List ℕ) (h z : ℕ) (rows : List Row) → cond b (file_of s) (refused Lists) ≡ read h z rows → b ≡ true
right_lists true s h z rows e = refl
right_lists false s h z rows e = let q : ◌≡◌ {A = ℕ} 0 1 = cc in absurd (omega arith)

-- and left a column in each
list_taken : (f : Row → ℤ) (h z : ℕ) (rows : List Row) (a a' : List ℤ) → a' ≡ list_of f (read h z rows) a → take (length rows) a' ≡ map f rows
list_taken f h z rows a a' e = rw e (take_at (map f rows) _ (length rows) (length-map rows f))

pub one_text : OneText
unfolding natural text_of
one_text s before e p a b c d f a' b' c' d' t = go (outcome s a b c d) refl t.answer t.entries t.exits t.titles t.poolings
  where
    go : (w : File) → outcome s a b c d ≡ w → Ok f ≡ answer_of w
        → a' ≡ list_of (λ r. r.entry) w a → b' ≡ list_of (λ r. r.exit) w b → c' ≡ list_of (λ r. r.title) w c → d' ≡ list_of (λ r. r.pooling) w d
        → WrittenAgain (content_read f a' b' c' d') s
    go (refused n) w q i j k l = let q : ◌≡◌ {A = ℕ} 0 1 = cc in absurd (omega arith)
    go (read h z rows) w q i j k l =
        let long = right_lists (all128 (length a) (length b) (length c) (length d)) s h z rows w in
        let o = (read_if_obeyed s a b c d long h z rows).0 w in
        let is : f ≡ record { hour = pos h; zone = pos z; lines = pos (length rows) } = cc in
        rw (is, list_taken _ h z rows a a' i, list_taken _ h z rows b b' j, list_taken _ h z rows c c' k, list_taken _ h z rows d d' l)
        (record { fit = again_fit o; text = ap file_text (again_rows o) ∙ file_text_lem o before e p })

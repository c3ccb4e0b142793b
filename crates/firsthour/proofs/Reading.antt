-- The text of a file by the answer of its reader. Assumes nothing.
use mathlib.Core.Path.{◌≡◌, sym, ap, ◌∙◌}
use mathlib.Core.List.{List, ◌++◌, map}
use Prim.Native.Nat.{ℕ, ◌≤◌}
use native.Mathlib.Omega.{arith}
use lib.IntN.{ℤ, pos}
use lib.ListN.{length, take, drop, length-map}
use lib.Seq.{take_at}
use Rattle.std.specs.Prelude.{Ok, Err}
use Rattle.integers.specs.Ranges.{natural}
use Rattle.rules.specs.Limits.{users_most}
use Rattle.allocation_file.specs.declared.FileRead.{FileRead}
use Rattle.allocation_row.specs.declared.Row.{Row}
use Rattle.allocation_row.specs.declared.FileCause.{FileCause}
use Rattle.allocation_row.specs.Causes.{number}
use Rattle.rules.proofs.Refusing.{not_refused}
use Rattle.allocation_lines.specs.Turns.{File, refused, read}
use Rattle.allocation_file.specs.File.{outcome, answer_of, list_of}
use Rattle.file_guarantees.proofs.Guarantees.{accepted_obeys}
use Rattle.text.specs.declared.writing.Writer.{Writer}
use Rattle.text.specs.Puts.{Wrote}
use Rattle.report.specs.Text.{refused_line}
use Rattle.hour_text.specs.Opened.{opened_new}
use Rattle.firsthour.specs.Printed.{of_file}

pub file_refused : (w : File) {k : FileCause} → Err k ≡ answer_of w → of_file w ≡ refused_line (number k)
unfolding of_file
file_refused (refused c) {k} e = let q : ◌≡◌ {A = FileCause} c k = cc in ap (λ (c : FileCause). refused_line (number c)) q
file_refused (read h z rows) e = absurd (not_refused e)

rows_taken : (f : Row → ℤ) (rows : List Row) (xs : List ℤ) → take (length rows) (map f rows ++ drop (length rows) xs) ≡ map f rows
rows_taken f rows xs = take_at (map f rows) (drop (length rows) xs) (length rows) (length-map rows f)

-- what is written of the lists after the call is the file's text
pub file_read : {v v' : Writer} (w : File) (a b c d : List ℤ) {f : FileRead} {n : ℕ} {a' b' c' d' : List ℤ} → Ok f ≡ answer_of w → n ≡ natural f.lines
    → Wrote v v' (opened_new f.hour f.zone (take n a') (take n b') (take n c') (take n d'))
    → a' ≡ list_of (λ r. r.entry) w a → b' ≡ list_of (λ r. r.exit) w b → c' ≡ list_of (λ r. r.title) w c → d' ≡ list_of (λ r. r.pooling) w d
    → Wrote v v' (of_file w)
unfolding of_file natural
file_read (refused k) a b c d e l t ea eb ec ed = absurd (not_refused (sym e))
file_read (read h z rows) a b c d {f} {n} e l t ea eb ec ed =
    let q : ◌≡◌ {A = FileRead} f (record { hour = pos h; zone = pos z; lines = pos (length rows) }) = cc in
    let m : n ≡ length rows = l ∙ ap (λ (g : FileRead). natural g.lines) q in
    rw (
      q,
      m,
      ea,
      eb,
      ec,
      ed,
      rows_taken (λ r. r.entry) rows a,
      rows_taken (λ r. r.exit) rows b,
      rows_taken (λ r. r.title) rows c,
      rows_taken (λ r. r.pooling) rows d,
    ) at t

pub file_few : (s : List ℕ) (a b c d : List ℤ) {f : FileRead} {n : ℕ} → Ok f ≡ answer_of (outcome s a b c d) → n ≡ natural f.lines → n ≤ users_most
unfolding natural
file_few s a b c d {f} {n} e l =
    let k = accepted_obeys s a b c d f (sym e) in
    omega (arith, l ∙ ap natural k.lines, k.few)

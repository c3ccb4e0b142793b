-- The answer and the four lists at each way out of the reading of the lines from place k on. Assumes nothing.
use mathlib.Core.Path.{◌≡◌, refl, sym, ◌∙◌}
use mathlib.Core.List.{List, [], ◌∷◌, ◌++◌, map}
use Prim.Native.Nat.{ℕ, suc, ◌+◌, ◌<◌}
use native.Mathlib.Nat.{add-zero}
use native.Mathlib.Numerals.{add-one}
use native.Mathlib.Omega.{arith}
use lib.IntN.{ℤ, pos}
use lib.ListN.{length, get_or, take, drop, set, length-append, take-append-drop}
use lib.Seq.{take-suc, append_snoc, set_at, length-take-le}
use Rattle.std.specs.Prelude.{Result, Ok, Err}
use Rattle.allocation_row.specs.declared.Row.{Row}
use Rattle.allocation_row.specs.declared.FileCause.{FileCause}
use Rattle.allocation_row.specs.Steps.{Within, Same, Stored}
use Rattle.allocation_row.specs.declared.Lists.{Lists}
use Rattle.allocation_lines.specs.Turns.{File, refused, read, with_row}
use Rattle.allocation_lines.specs.Steps.{Lent, list_from, After}
use Rattle.allocation_lines.specs.declared.LinesRead.{LinesRead}

-- ---- the lists that come back are the ones lent
same_lists : {l : Lists} → Same l l
same_lists = record { entries = refl; exits = refl; titles = refl; poolings = refl }

same_then : {l l' l'' : Lists} → Same l l' → Same l' l'' → Same l l''
same_then p q = record {
  entries = q.entries ∙ p.entries;
  exits = q.exits ∙ p.exits;
  titles = q.titles ∙ p.titles;
  poolings = q.poolings ∙ p.poolings;
}

-- ---- no list is touched
pub after_refused : {k : ℕ} {n : FileCause} {f : File} {l : Lists} → f ≡ refused n → After k f l (Err n) l
after_refused e = rw e record { answer = refl; same = same_lists; entries = refl; exits = refl; titles = refl; poolings = refl }

-- after the last line
pub after_end : {k h z : ℕ} {f : File} {l : Lists} → f ≡ read h z [] → After k f l (Ok (record { hour = h; zone = z; lines = k })) l
after_end {k} {l = l} e =
    rw e record {
      answer = rw add-zero;
      same = same_lists;
      entries = kept l.entries.now;
      exits = kept l.exits.now;
      titles = kept l.titles.now;
      poolings = kept l.poolings.now;
    }
  where
    kept : (xs : List ℤ) → xs ≡ take k xs ++ drop (k + 0) xs
    kept xs = rw add-zero (sym (take-append-drop k xs))

-- ---- one row more
module _ {k : ℕ} where
  -- each list still reaches beyond place k once the lines after it are read
  reaches : (f : Row → ℤ) (w : File) (xs : List ℤ) → k < length xs → k < length (list_from f (k + 1) w xs)
  reaches f (refused m) xs g = g
  reaches f (read h z rs) xs g =
      let ys = map f rs ++ drop (k + 1 + length rs) xs in
      omega (arith, g, length-append (take (k + 1) xs) ys, length-take-le (k + 1) xs (omega (arith, g)))

  pub row_fits : (f : File) {l l' : Lists} {u : Result LinesRead FileCause} → Lent l → k < 128 → After (k + 1) f l u l' → Within k l'
  row_fits f {l} n g w = record {
    entries = rw w.entries (reaches (λ w. w.entry) f l.entries.now (omega (arith, n.entries)));
    exits = rw w.exits (reaches (λ w. w.exit) f l.exits.now (omega (arith, n.exits)));
    titles = rw w.titles (reaches (λ w. w.title) f l.titles.now (omega (arith, n.titles)));
    poolings = rw w.poolings (reaches (λ w. w.pooling) f l.poolings.now (omega (arith, n.poolings)));
  }

module _ (k : ℕ) (r : Row) where
  -- the lines after it are refused
  pub after-rest : (f : File) (n : FileCause) {l l' : Lists}
      → After (k + 1) f l (Err n) l' → After k (with_row r f) l (Err n) l'
  after-rest (refused m) n w =
      record { answer = w.answer; same = w.same; entries = w.entries; exits = w.exits; titles = w.titles; poolings = w.poolings }
  after-rest (read h z rs) n w = let q : ◌≡◌ {A = ℕ} 0 1 = cc w.answer in absurd (omega arith)

  -- the row's number at place k, before those of the rows after it
  put : (f : Row → ℤ) (h z : ℕ) (rs : List Row) (xs : List ℤ) → k < length xs
      → set (list_from f (k + 1) (read h z rs) xs) k (f r) ≡ list_from f k (read h z (r ∷ rs)) xs
  put f h z rs xs g =
      let e : k + 1 + length rs ≡ k + suc (length rs) = omega arith in
      rw (e, add-one, take-suc xs k (pos 0) g, append_snoc)
      (set_at (take k xs) (get_or xs k (pos 0)) (map f rs ++ drop (k + suc (length rs)) xs) (f r) k
      (length-take-le k xs (omega arith)))

  -- the lines after it are read, and it is stored
  pub after_stored : (f : File) (u : LinesRead) {l l' l'' : Lists} → Lent l → k < 128
      → After (k + 1) f l (Ok u) l' → Stored r k l' l''
      → After k (with_row r f) l (Ok u) l''
  after_stored (refused m) u n g w s = let q : ◌≡◌ {A = ℕ} 0 1 = cc w.answer in absurd (omega arith)
  after_stored (read h z rs) u {l} n g w s =
      let i : k + 1 + length rs ≡ k + suc (length rs) = omega arith in
      record {
        answer = w.answer ∙ rw i;
        same = same_then w.same s.same;
        entries = s.entries ∙ rw w.entries (put (λ w. w.entry) h z rs l.entries.now (omega (arith, n.entries)));
        exits = s.exits ∙ rw w.exits (put (λ w. w.exit) h z rs l.exits.now (omega (arith, n.exits)));
        titles = s.titles ∙ rw w.titles (put (λ w. w.title) h z rs l.titles.now (omega (arith, n.titles)));
        poolings = s.poolings ∙ rw w.poolings (put (λ w. w.pooling) h z rs l.poolings.now (omega (arith, n.poolings)));
      }

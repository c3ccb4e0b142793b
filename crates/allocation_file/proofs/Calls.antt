-- The call's answer and the four lists, from what the lines after the header make of them. Assumes nothing.
use mathlib.Core.Path.{◌≡◌}
use mathlib.Core.List.{List}
use Prim.Native.Nat.{ℕ, ◌+◌}
use native.Mathlib.Nat.{zero-add}
use native.Mathlib.Omega.{arith}
use lib.IntN.{ℤ}
use lib.ListN.{length}
use Rattle.std.specs.Prelude.{Result, Ok, Err}
use Rattle.allocation_row.specs.declared.FileCause.{FileCause}
use Rattle.allocation_row.specs.declared.Lists.{Lists}
use Rattle.allocation_lines.specs.Turns.{File, refused, read}
use Rattle.allocation_lines.specs.Steps.{After}
use Rattle.allocation_lines.specs.declared.LinesRead.{LinesRead}
use Rattle.allocation_file.specs.declared.FileRead.{FileRead}
use Rattle.allocation_file.specs.File.{outcome, ReadHour}
use Rattle.allocation_file.specs.Steps.{in_signed}

-- a refusal touches no list
pub refusal : {s : List ℕ} {a b c d : List ℤ} {n : FileCause} → outcome s a b c d ≡ refused n → ReadHour s a b c d (Err n) a b c d
refusal e = record { answer = rw e; entries = rw e; exits = rw e; titles = rw e; poolings = rw e }

-- what the call makes of the lists lent
abbrev pub outcome_of : List ℕ → Lists → File
outcome_of s l = outcome s l.entries.now l.exits.now l.titles.now l.poolings.now

-- the call's contract, over the lists lent
abbrev Read : List ℕ → Lists → Result FileRead FileCause → Lists → Type 0
Read s l r l' =
    ReadHour s l.entries.now l.exits.now l.titles.now l.poolings.now r l'.entries.now l'.exits.now l'.titles.now l'.poolings.now

-- the lines are refused
pub lines_refused : (s : List ℕ) (f : File) (n : FileCause) {l l' : Lists} → outcome_of s l ≡ f → After 0 f l (Err n) l' → Read s l (Err n) l'
lines_refused s (refused m) n e w =
    let q : m ≡ n = cc w.answer in
    record {
      answer = rw (e, q);
      entries = rw e w.entries;
      exits = rw e w.exits;
      titles = rw e w.titles;
      poolings = rw e w.poolings;
    }
lines_refused s (read h z rs) n e w = let q : ◌≡◌ {A = ℕ} 0 1 = cc w.answer in absurd (omega arith)

-- no line stands before the first
pub lines_read : (s : List ℕ) (f : File) (u : LinesRead) {l l' : Lists} → outcome_of s l ≡ f → After 0 f l (Ok u) l' → Read s l (Ok (in_signed u)) l'
lines_read s (refused m) u e w = let q : ◌≡◌ {A = ℕ} 0 1 = cc w.answer in absurd (omega arith)
lines_read s (read h z rs) u e w =
    let n = zero-add (length rs) in
    let q : ◌≡◌ {A = LinesRead} u (record { hour = h; zone = z; lines = 0 + length rs }) = cc w.answer in
    record {
      answer = rw (e, q, n);
      entries = rw e (rw n at w.entries);
      exits = rw e (rw n at w.exits);
      titles = rw e (rw n at w.titles);
      poolings = rw e (rw n at w.poolings);
    }

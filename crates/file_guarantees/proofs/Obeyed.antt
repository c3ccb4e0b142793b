-- A file that is read obeys the rules, and one that obeys them is read. Assumes nothing.
use mathlib.Core.Path.{◌≡◌, refl, sym, ap, ap₂, ◌∙◌}
use mathlib.Core.Bool.{Bool, true, false, cond}
use mathlib.Core.List.{List, [], ◌∷◌, map}
use Prim.Native.Nat.{ℕ, suc, ◌+◌, ◌-◌, ◌≤◌}
use native.Mathlib.Nat.{add-zero}
use native.Mathlib.Omega.{arith}
use lib.ListN.{length, take, replicate}
use Rattle.std.specs.Prelude.{Result, Ok, Err}
use Rattle.integers.specs.Lists.{tabulate}
use Rattle.integers.proofs.Counts.{tabulate_ext}
use Rattle.csv_lines.specs.Lines.{begins}
use Rattle.csv_lines.proofs.Begins.{begins-take, take_begins}
use Rattle.allocation_row.specs.Rows.{row_of, follows}
use Rattle.allocation_row.specs.declared.Row.{Row}
use Rattle.allocation_row.specs.declared.FileCause.{FileCause}
use Rattle.allocation_row.specs.declared.FileCause.TheVariants.{Header, Turn}
use Rattle.allocation_row.proofs.Follows.{Follows, follows_means, means_follows}
use Rattle.allocation_lines.specs.Turns.{File, refused, read, with_row, turn, in_turn, under_first, body_of}
use Rattle.allocation_file.specs.File.{header, lines_of, file_of}
use Rattle.file_guarantees.specs.Guarantees.{Standing, Obeys}

-- ---- lines that stand in their turn, from place k on
pub record Turned (h z : ℕ) (ls : List (List ℕ)) (k : ℕ) (rows : List Row) : Type 0 where
  pub each : map row_of ls ≡ map Ok rows
  pub hours : map (λ r. r.hour) rows ≡ replicate (length rows) h
  pub zones : map (λ r. r.zone) rows ≡ replicate (length rows) z
  pub places : map (λ r. r.place) rows ≡ tabulate (λ i. k + i) (length rows)
  pub few : length rows ≤ 128 - k

-- one place further
shifted : (k n : ℕ) → tabulate (λ i. k + suc i) n ≡ tabulate (λ i. k + 1 + i) n
shifted k n = tabulate_ext (λ i. k + suc i) (λ i. k + 1 + i) n (λ i h. omega arith)

-- from place 0 on
from_zero : (n : ℕ) → tabulate (λ i. 0 + i) n ≡ tabulate (λ i. i) n
from_zero n = tabulate_ext (λ i. 0 + i) (λ i. i) n (λ i h. omega arith)

module _ (ls : List (List ℕ)) (h z : ℕ) (rows : List Row) where
  -- what the guarantee names
  turned_standing : Turned h z ls 0 rows → Standing ls h z rows
  turned_standing t = record { each = t.each; hours = t.hours; zones = t.zones; places = t.places ∙ from_zero (length rows); few = t.few }

  -- and back
  pub standing_turned : Standing ls h z rows → Turned h z ls 0 rows
  standing_turned t = record { each = t.each; hours = t.hours; zones = t.zones; places = t.places ∙ sym (from_zero (length rows)); few = t.few }

-- the first line, and those after it
pub record First (h z : ℕ) (l : List ℕ) (ls : List (List ℕ)) (k : ℕ) (r : Row) (rows : List Row) : Type 0 where
  pub is : row_of l ≡ Ok r
  pub follows : Follows h z k r
  pub rest : Turned h z ls (k + 1) rows

module _ (h z : ℕ) (l : List ℕ) (ls : List (List ℕ)) (k : ℕ) (r : Row) (rows : List Row) where
  -- the first line put before the others
  with_first : First h z l ls k r rows → Turned h z (l ∷ ls) k (r ∷ rows)
  unfolding tabulate
  with_first f =
      let w = f.follows in
      let t = f.rest in
      record {
        each = rw (f.is, t.each);
        hours = rw (w.hour, t.hours);
        zones = rw (w.zone, t.zones);
        places = rw (w.place, t.places, add-zero, shifted k (length rows));
        few = omega (arith, t.few, w.below);
      }

  -- and taken off again
  pub first : Turned h z (l ∷ ls) k (r ∷ rows) → First h z l ls k r rows
  unfolding tabulate
  first t =
      let g : r.place ≡ k + 0 = cc t.places in
      let p : map (λ r. r.place) rows ≡ tabulate (λ i. k + suc i) (length rows) = cc t.places in
      record {
        is = cc t.each;
        follows = record { hour = cc t.hours; zone = cc t.zones; place = rw add-zero at g; below = omega (arith, t.few) };
        rest = record {
          each = cc t.each;
          hours = cc t.hours;
          zones = cc t.zones;
          places = rw (shifted k (length rows)) at p;
          few = omega (arith, t.few);
        };
      }

-- a line without a row, and a row without a line
module _ (h z : ℕ) (k : ℕ) where
  -- each line has its row
  pub no_row : (l : List ℕ) (ls : List (List ℕ)) → Turned h z (l ∷ ls) k [] → ⊥
  no_row l ls t = let q : ◌≡◌ {A = ℕ} 0 1 = cc t.each in omega arith

  -- each row has its line
  pub no_line : (r : Row) (rows : List Row) → Turned h z [] k (r ∷ rows) → ⊥
  no_line r rows t = let q : ◌≡◌ {A = ℕ} 0 1 = cc t.each in omega arith

-- ---- lines in turn that are read

-- what holds of a file if it is read
abbrev pub IfRead : (ℕ → ℕ → List Row → Type 0) → File → Type 0
IfRead P (refused c) = Unit
IfRead P (read h z rows) = P h z rows

-- the hour and the zone read are those of the lines
record Turns (h z : ℕ) (ls : List (List ℕ)) (k : ℕ) (h' z' : ℕ) (rows : List Row) : Type 0 where
  pub hour : h' ≡ h
  pub zone : z' ≡ z
  pub are : Turned h z ls k rows

module _ (h z : ℕ) (l : List ℕ) (ls : List (List ℕ)) (k : ℕ) (r : Row) (e : row_of l ≡ Ok r) where
  -- one row more is read
  with_row_lem : (f : File) → Follows h z k r → IfRead (Turns h z ls (k + 1)) f → IfRead (Turns h z (l ∷ ls) k) (with_row r f)
  with_row_lem (refused c) w t = tt
  with_row_lem (read h' z' rows) w t =
      let are = with_first h z l ls k r rows (record { is = e; follows = w; rest = t.are }) in
      record { hour = t.hour; zone = t.zone; are = are }

  -- if it follows
  if_follows : (b : Bool) → follows h z k r ≡ b → IfRead (Turns h z ls (k + 1)) (in_turn h z ls (k + 1))
      → IfRead (Turns h z (l ∷ ls) k) (cond b (with_row r (in_turn h z ls (k + 1))) (refused Turn))
  if_follows true f t = with_row_lem (in_turn h z ls (k + 1)) (follows_means h z k r f) t
  if_follows false f t = tt

-- lines in turn that are read stand in their turn
turns : (h z : ℕ) (ls : List (List ℕ)) (k : ℕ) → IfRead (Turns h z ls k) (in_turn h z ls k)
unfolding tabulate
turns h z [] k = record { hour = refl; zone = refl; are = record { each = refl; hours = refl; zones = refl; places = refl; few = omega arith } }
turns h z (l ∷ ls) k = go (row_of l) refl (turns h z ls (k + 1))
  where
    go : (w : Result Row FileCause) → row_of l ≡ w → IfRead (Turns h z ls (k + 1)) (in_turn h z ls (k + 1))
        → IfRead (Turns h z (l ∷ ls) k) (turn w h z k (in_turn h z ls))
    go (Err c) e t = tt
    go (Ok r) e t = if_follows h z l ls k r e (follows h z k r) refl t

-- one line that stands in its turn
pub turn_first : (h z : ℕ) (l : List ℕ) (ls : List (List ℕ)) (k : ℕ) (r : Row) → row_of l ≡ Ok r → Follows h z k r
    → in_turn h z (l ∷ ls) k ≡ with_row r (in_turn h z ls (k + 1))
turn_first h z l ls k r e w = rw (e, means_follows h z k r w)

-- the converse of `turns`
in_turn_lem : (h z : ℕ) (ls : List (List ℕ)) (rows : List Row) (k : ℕ) → Turned h z ls k rows → in_turn h z ls k ≡ read h z rows
in_turn_lem h z [] [] k t = refl
in_turn_lem h z [] (r ∷ rows) k t = absurd (no_line h z k r rows t)
in_turn_lem h z (l ∷ ls) [] k t = absurd (no_row h z k l ls t)
in_turn_lem h z (l ∷ ls) (r ∷ rows) k t =
    let f = first h z l ls k r rows t in
    turn_first h z l ls k r f.is f.follows ∙ rw (in_turn_lem h z ls rows (k + 1) f.rest)

-- ---- the lines after the header: the first gives the hour and the zone
pub body_turns : (h z : ℕ) (l : List ℕ) (ls : List (List ℕ)) (r : Row) → row_of l ≡ Ok r → r.hour ≡ h → r.zone ≡ z
    → body_of (l ∷ ls) ≡ in_turn h z (l ∷ ls) 0
body_turns h z l ls r e p q = ap (λ (w : Result Row FileCause). under_first w (l ∷ ls)) e ∙ under r.hour r.zone p q
  where
    under : (x y : ℕ) → x ≡ h → y ≡ z → in_turn x y (l ∷ ls) 0 ≡ in_turn h z (l ∷ ls) 0
    under x y p q = ap₂ (λ (x y : ℕ). in_turn x y (l ∷ ls) 0) p q

-- at least one line, and all stand in their turn
record Body (ls : List (List ℕ)) (h z : ℕ) (rows : List Row) : Type 0 where
  pub some : 1 ≤ length rows
  pub are : Turned h z ls 0 rows

-- lines that are read
body : (ls : List (List ℕ)) → IfRead (Body ls) (body_of ls)
body [] = tt
body (l ∷ ls) = go (row_of l) refl
  where
    some : (h z : ℕ) (f : File) → IfRead (Turns h z (l ∷ ls) 0) f → IfRead (Body (l ∷ ls)) f
    some h z (refused c) t = tt
    some h z (read h' z' []) t = absurd (no_row h z 0 l ls t.are)
    some h z (read h' z' (r ∷ rows)) t = record { some = omega arith; are = rw (t.hour, t.zone) t.are }

    go : (w : Result Row FileCause) → row_of l ≡ w → IfRead (Body (l ∷ ls)) (under_first w (l ∷ ls))
    go (Err c) e = tt
    go (Ok r) e = some r.hour r.zone (in_turn r.hour r.zone (l ∷ ls) 0) (turns r.hour r.zone (l ∷ ls) 0)

-- and the converse
in_body : (ls : List (List ℕ)) (h z : ℕ) (rows : List Row) → Body ls h z rows → body_of ls ≡ read h z rows
in_body ls h z [] b = absurd (omega (arith, b.some))
in_body [] h z (r ∷ rows) b = absurd (no_line h z 0 r rows b.are)
in_body (l ∷ ls) h z (r ∷ rows) b =
    let f = first h z l ls 0 r rows b.are in
    body_turns h z l ls r f.is f.follows.hour f.follows.zone ∙ in_turn_lem h z (l ∷ ls) (r ∷ rows) 0 b.are

-- ---- the whole file
-- a file that opens with the header
pub opened : (s : List ℕ) → take (length header) s ≡ header → file_of s ≡ body_of (lines_of s)
unfolding file_of
opened s e = rw (take_begins s header e)

-- a file that is read obeys the rules
pub obeyed : (s : List ℕ) → IfRead (Obeys s) (file_of s)
unfolding file_of
obeyed s = go (begins s header) refl
  where
    whole : (f : File) → begins s header ≡ true → IfRead (Body (lines_of s)) f → IfRead (Obeys s) f
    whole (refused c) e b = tt
    whole (read h z rows) e b = record {
      opens = begins-take s header e;
      some = omega (arith, b.some);
      standing = turned_standing (lines_of s) h z rows b.are;
    }

    go : (b : Bool) → begins s header ≡ b → IfRead (Obeys s) (cond b (body_of (lines_of s)) (refused Header))
    go true e = whole (body_of (lines_of s)) e (body (lines_of s))
    go false e = tt

-- and the converse
pub obeys_read : (s : List ℕ) (h z : ℕ) (rows : List Row) → Obeys s h z rows → file_of s ≡ read h z rows
obeys_read s h z rows o =
    opened s o.opens ∙ in_body (lines_of s) h z rows (record { some = o.some; are = standing_turned (lines_of s) h z rows o.standing })

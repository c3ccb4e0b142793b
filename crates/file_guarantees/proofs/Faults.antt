-- The first line that is refused gives the file's cause; and which causes a file may have. Assumes nothing.
use mathlib.Core.Path.{◌≡◌, refl, ◌∙◌}
use mathlib.Core.List.{List, [], ◌∷◌, ◌++◌}
use Prim.Native.Nat.{ℕ, suc, ◌+◌, ◌≤◌}
use native.Mathlib.Nat.{add-zero, zero-add}
use native.Mathlib.Omega.{arith}
use lib.ListN.{length}
use Rattle.allocation_row.specs.Causes.{number}
use Rattle.allocation_row.specs.declared.Row.{Row}
use Rattle.allocation_row.specs.declared.FileCause.{FileCause}
use Rattle.allocation_row.specs.declared.FileCause.TheVariants.{Lists, Header, Form, Field, Turn, NoLine}
use Rattle.allocation_lines.specs.Turns.{refused, in_turn, body_of}
use Rattle.file_guarantees.specs.Guarantees.{Fault, by_itself, in_its_turn}
use Rattle.file_guarantees.proofs.Obeyed.{Turned, first, no_row, no_line, turn_first, body_turns}

-- ---- the first fault

-- the line in its turn
at_fault : (h z k : ℕ) (n : FileCause) (l : List ℕ) (after : List (List ℕ)) → Fault h z k l n → in_turn h z (l ∷ after) k ≡ refused n
at_fault h z k n l after (by_itself e) = rw e
at_fault h z k n l after (in_its_turn r e f g) = rw (e, f)

-- the lines before it
before_fault : (h z k : ℕ) (n : FileCause) (before ls : List (List ℕ)) (rows : List Row) → Turned h z before k rows
    → in_turn h z ls (k + length rows) ≡ refused n → in_turn h z (before ++ ls) k ≡ refused n
before_fault h z k n [] ls [] t e = rw add-zero at e
before_fault h z k n [] ls (r ∷ rows) t e = absurd (no_line h z k r rows t)
before_fault h z k n (b ∷ before) ls [] t e = absurd (no_row h z k b before t)
before_fault h z k n (b ∷ before) ls (r ∷ rows) t e =
    let f = first h z b before k r rows t in
    let q : k + suc (length rows) ≡ k + 1 + length rows = omega arith in
    turn_first h z b (before ++ ls) k r f.is f.follows ∙ rw (before_fault h z (k + 1) n before ls rows f.rest (rw q at e))

-- the first line gives the hour and the zone
pub body_fault : (h z : ℕ) (n : FileCause) (before : List (List ℕ)) (l : List ℕ) (after : List (List ℕ)) (rows : List Row)
    → Turned h z before 0 rows → Fault h z (length rows) l n
    → body_of (before ++ l ∷ after) ≡ refused n
body_fault h z n [] l after [] t (by_itself e) = rw e
body_fault h z n [] l after [] t (in_its_turn r e f g) =
    body_turns h z l after r e (g refl).0 (g refl).1 ∙ at_fault h z 0 Turn l after (in_its_turn r e f g)
body_fault h z n [] l after (r ∷ rows) t w = absurd (no_line h z 0 r rows t)
body_fault h z n (b ∷ before) l after [] t w = absurd (no_row h z 0 b before t)
body_fault h z n (b ∷ before) l after (r ∷ rows) t w =
    let f = first h z b before 0 r rows t in
    let k = suc (length rows) in
    let e : in_turn h z (l ∷ after) (0 + k) ≡ refused n = rw (zero-add k) (at_fault h z k n l after w) in
    body_turns h z b (before ++ l ∷ after) r f.is f.follows.hour f.follows.zone
    ∙ before_fault h z 0 n (b ∷ before) (l ∷ after) (r ∷ rows) t e

-- ---- the causes, 12 to 17 with that of the lists
pub number_within : (n : FileCause) → (12 ≤ number n) × (number n ≤ 17)
number_within Lists = (omega arith, omega arith)
number_within Header = (omega arith, omega arith)
number_within Form = (omega arith, omega arith)
number_within Field = (omega arith, omega arith)
number_within Turn = (omega arith, omega arith)
number_within NoLine = (omega arith, omega arith)

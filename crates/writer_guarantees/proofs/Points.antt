-- Bytes without a point have none in their lines, nor in the fields of a line. Assumes nothing.
use mathlib.Core.Path.{◌≡◌, refl, sym, ap, ◌∙◌}
use mathlib.Core.Bool.{Bool, true, false, ◌||◌}
use mathlib.Core.List.{List, [], ◌∷◌, ◌++◌}
use Prim.Native.Nat.{ℕ, zero, suc}
use native.Mathlib.Omega.{arith}
use lib.ListN.{get_or}
use Rattle.text.specs.Bytes.{comma, line_end}
use Rattle.text.specs.Numbers.{has_point}
use Rattle.text.proofs.Points.{has_point-append}
use Rattle.csv_lines.specs.Lines.{fields, field_at}
use Rattle.allocation_text.specs.Text.{joined}
use Rattle.allocation_writer.specs.Writer.{ended}
use Rattle.writer_guarantees.proofs.Lists.{All}
use Rattle.writer_guarantees.proofs.Fields.{joined-fields}

abbrev pub NoPoint : List ℕ → Type 0
NoPoint f = has_point f ≡ false

-- neither of two parts has one
pub no_point_parts : (w d : List ℕ) → NoPoint (w ++ d) → NoPoint w × NoPoint d
no_point_parts w d h = go (has_point w) refl (sym (has_point-append w d) ∙ h)
  where
    go : (b : Bool) → has_point w ≡ b → (b || has_point d) ≡ false → NoPoint w × NoPoint d
    go true e h = let q : ◌≡◌ {A = ℕ} 0 1 = cc in absurd (omega arith)
    go false e h = (e, h)

-- the lines of bytes that are their lines ended
pub lines_no_point : (ls : List (List ℕ)) → NoPoint (ended ls) → All NoPoint ls
unfolding ended
lines_no_point [] h = tt
lines_no_point (l ∷ ls) h =
    let p = no_point_parts (l ++ line_end) (ended ls) h in
    ((no_point_parts l line_end p.0).0, lines_no_point ls p.1)

-- the fields of a line
joined_no_point : (fs : List (List ℕ)) → NoPoint (joined fs) → All NoPoint fs
joined_no_point [] h = tt
joined_no_point (f ∷ []) h = (h, tt)
joined_no_point (f ∷ g ∷ fs) h =
    let p = no_point_parts f (comma ∷ joined (g ∷ fs)) h in
    (p.0, joined_no_point (g ∷ fs) p.1)

-- each of them, and those that there are not
pub field_no_point : (l : List ℕ) → NoPoint l → (k : ℕ) → NoPoint (field_at k l)
field_no_point l h = at (fields l) (joined_no_point (fields l) (ap has_point (joined-fields l) ∙ h))
  where
    at : (fs : List (List ℕ)) → All NoPoint fs → (k : ℕ) → NoPoint (get_or fs k [])
    at [] a k = refl
    at (f ∷ fs) a zero = a.0
    at (f ∷ fs) a (suc k) = at fs a.1 k

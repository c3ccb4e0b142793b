-- A line without CR, ended and parted, is the line again; bytes that end in CR LF, parted and ended, are the bytes again. Assumes nothing.
use mathlib.Core.Path.{◌≡◌, refl}
use mathlib.Core.Bool.{Bool, true, false, and-false}
use mathlib.Core.List.{List, [], ◌∷◌, ◌++◌}
use Prim.Native.Nat.{ℕ}
use native.Mathlib.Omega.{arith}
use lib.Dec.{eqb}
use borrow.Author.Tests.{eqb-true, ne_eqb}
use Rattle.integers.proofs.Tests.{and_true}
use Rattle.text.specs.Bytes.{carriage_return, line_feed, line_end}
use Rattle.csv_lines.specs.Lines.{is_pair, on_first, at_byte, lines}
use Rattle.allocation_writer.specs.Writer.{ended}
use Rattle.writer_guarantees.proofs.Lists.{Above}

-- ended and parted: a line whose bytes are above the CR ends where CR LF stands
pub line-ended : (l s : List ℕ) → Above carriage_return l → lines (l ++ line_end ++ s) ≡ l ∷ lines s
unfolding line_end
line-ended [] s a = refl
line-ended (x ∷ []) s a =
    let other : x ≡ carriage_return → ⊥ = λ e. omega (arith, a.0) in
    rw (ne_eqb x carriage_return other)
line-ended (x ∷ y ∷ l) s a =
    let other : x ≡ carriage_return → ⊥ = λ e. omega (arith, a.0) in
    rw (ne_eqb x carriage_return other, line-ended (y ∷ l) s a.1)

-- a byte more in the first of one line or more is a byte more in the whole
ended_first : (x y : ℕ) (s : List ℕ) (ls : List (List ℕ)) → ended ls ≡ y ∷ s → ended (on_first x ls) ≡ x ∷ y ∷ s
unfolding ended
ended_first x y s [] e = let q : ◌≡◌ {A = ℕ} 0 1 = cc in absurd (omega arith)
ended_first x y s (l ∷ ls) e = rw e

-- parted and ended: the bytes again, if they end in CR LF
pub ended-lines : (s : List ℕ) → ended (lines (s ++ line_end)) ≡ s ++ line_end
unfolding ended line_end
ended-lines [] = refl
ended-lines (x ∷ []) = rw (and-false (eqb x carriage_return))
ended-lines (x ∷ y ∷ s) = go (is_pair x y) refl (ended-lines s) (ended-lines (y ∷ s))
  where
    go : (b : Bool) → is_pair x y ≡ b → ended (lines (s ++ line_end)) ≡ s ++ line_end → ended (lines (y ∷ s ++ line_end)) ≡ y ∷ s ++ line_end
        → ended (at_byte b x (lines (s ++ line_end)) (lines (y ∷ s ++ line_end))) ≡ x ∷ y ∷ s ++ line_end
    go true e after on =
        let p = and_true (eqb x carriage_return) (eqb y line_feed) e in
        rw (eqb-true x carriage_return p.0, eqb-true y line_feed p.1, after)
    go false e after on = ended_first x y (s ++ line_end) (lines (y ∷ s ++ line_end)) on

-- A user's line, whose numbers are those at a place of the lists, after the lines of the users before. Assumes nothing.
use Rattle.std.proofs.Common.{◌≡◌, ℕ, ◌+◌, List, ℤ, pos, get_or, add-one}
use Rattle.text.specs.declared.writing.Writer.{Writer}
use Rattle.text.specs.Puts.{Wrote}
use Rattle.text.proofs.Puts.{wrote_then}
use Rattle.report.specs.Text.{user_line, line_at, user_lines}

-- one line more
pub line_more : (before quantity money after : List ℤ) (k : ℕ) {w w' w'' : Writer} {g b q m a : ℤ}
    → Wrote w w' (user_lines before quantity money after k)
    → Wrote w' w'' (user_line g b q m a)
    → g ≡ pos k → b ≡ get_or before k (pos 0) → q ≡ get_or quantity k (pos 0) → m ≡ get_or money k (pos 0) → a ≡ get_or after k (pos 0)
    → Wrote w w'' (user_lines before quantity money after (k + 1))
unfolding line_at user_lines
line_more before quantity money after k {w' = w'} {w'' = w''} lines p e₀ e₁ e₂ e₃ e₄ =
    let line : Wrote w' w'' (line_at before quantity money after k) = rw (← e₀, ← e₁, ← e₂, ← e₃, ← e₄) p in
    rw add-one (wrote_then lines line)

-- What a function that writes bytes promises. Assumes nothing.
use Rattle.std.specs.Prelude.{ℕ, ◌+◌, ◌≤◌, ◌≡◌, List, ◌++◌, length, take, drop}
use Rattle.text.specs.declared.writing.Writer.{Writer}

-- the text stands in out' from `at` on and ends at r, and all else is as it was in out
pub record Put (out : List ℕ) (at : ℕ) (text out' : List ℕ) (r : ℕ) : Type 0 where
  pub ends : r ≡ at + length text
  pub room : at + length text ≤ length out
  pub bytes : out' ≡ take at out ++ text ++ drop (at + length text) out

-- there is room for n bytes more
abbrev pub Room : Writer → ℕ → Type 0
Room w n = w.end + n ≤ length w.out.now

-- the text stands after what was written before, in the same lent bytes, and all else is as it was
pub record Wrote (w w' : Writer) (text : List ℕ) : Type 0 where
  pub same : w'.out.ghost_name ≡ w.out.ghost_name
  pub put : Put w.out.now w.end text w'.out.now w'.end

-- A text in a room of so many bytes, and more said after it. Assumes nothing.
use Rattle.std.specs.Prelude.{ℕ, ◌-◌, List, ◌++◌, length, take}

-- the text, and of what is said as much as there is room for
unfoldable pub said : ℕ → List ℕ → List ℕ → List ℕ
said room text more = text ++ take (room - length text) more

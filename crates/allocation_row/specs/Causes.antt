-- The causes for turning a file away. Assumes nothing.
use Rattle.std.specs.Prelude.{ℕ}
use Rattle.allocation_row.specs.declared.FileCause.{FileCause}
use Rattle.allocation_row.specs.declared.FileCause.TheVariants.{Lists, Header, Form, Field, Turn, NoLine}

-- "Causes for turning a call away", by number: "the reader 12 to 17"
abbrev pub number : FileCause → ℕ
number Lists = 12
number Header = 13
number Form = 14
number Field = 15
number Turn = 16
number NoLine = 17

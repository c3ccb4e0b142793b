-- A line in the two parts that are written, and their lengths. Assumes nothing.
use mathlib.Core.Path.{◌≡◌}
use mathlib.Core.List.{[], ◌∷◌, ◌++◌, append_assoc, append-nil}
use Prim.Native.Nat.{◌+◌}
use native.Mathlib.Omega.{arith}
use lib.ListN.{length, length-append}
use Rattle.text.specs.Bytes.{line_end}
use Rattle.text.specs.Decimals.{digits, decimal, field}
use Rattle.text.proofs.Decimals.{line_end_room}
use Rattle.text.proofs.Puts.{together}
use Rattle.allocation_row.specs.declared.Row.{Row}
use Rattle.allocation_text.specs.Text.{field_texts, line_text}
use Rattle.allocation_text.specs.Steps.{start_text, amounts_text}

pub line_parts : (r : Row) → line_text r ++ line_end ≡ together (start_text r ∷ amounts_text r ∷ [])
unfolding field field_texts line_text start_text amounts_text
line_parts r = simp (append_assoc, append-nil)

-- each number's length, and nine bytes more
pub line_long : (r : Row)
    → length (line_text r ++ line_end)
    ≡ length (digits r.hour) + length (digits r.place)
    + (length (decimal r.entry) + length (decimal r.exit) + length (decimal r.title) + length (decimal r.pooling))
    + 9
unfolding field_texts line_text
line_long r = simp (length-append, line_end_room) (omega arith)

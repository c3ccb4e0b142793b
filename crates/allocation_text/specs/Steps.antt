-- A line in two parts, each of which a function writes, and how long it can be. Nobody needs this to believe the text. Assumes nothing.
use Rattle.std.specs.Prelude.{ℕ, ◌+◌, ◌*◌, List, [], ◌∷◌, ◌++◌}
use Rattle.text.specs.Bytes.{comma, line_end}
use Rattle.text.specs.Decimals.{digits, decimal, field}
use Rattle.allocation_row.specs.Rows.{letter}
use Rattle.allocation_row.specs.declared.Row.{Row}
use Rattle.allocation_text.specs.Text.{zone_by}

-- the hour, the zone's letter and the place, with the commas after them
unfoldable pub start_text : Row → List ℕ
start_text r = digits r.hour ++ ((comma ∷ []) ++ ((letter (zone_by r.zone) ∷ []) ++ ((comma ∷ []) ++ (digits r.place ++ (comma ∷ [])))))

-- the four amounts with the commas between them, and the line's end
unfoldable pub amounts_text : Row → List ℕ
amounts_text r = field r.entry ++ (field r.exit ++ (field r.title ++ (decimal r.pooling ++ line_end)))

-- no line is longer: six numbers of 64 bits have at most 20 bytes each, and the letter, six commas and the line's end are nine. (An hour's file has none so long.)
abbrev pub line_most : ℕ
line_most = 6 * 20 + 9

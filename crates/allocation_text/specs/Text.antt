-- A row into its fields, and fields into a line: what the reader takes apart, put together. Assumes nothing.
use Rattle.std.specs.Prelude.{ℕ, cond, List, [], ◌∷◌, ◌++◌, eqb}
use Rattle.text.specs.Bytes.{comma}
use Rattle.text.specs.Decimals.{digits, decimal}
use Rattle.allocation_row.specs.Rows.{letter}
use Rattle.allocation_row.specs.declared.Row.{Row}
use Rattle.allocation_row.specs.declared.Zone.{Zone}
use Rattle.allocation_row.specs.declared.Zone.TheVariants.{H, L}

-- "Zones: 0 is H, 1 is L."
unfoldable pub zone_by : ℕ → Zone
zone_by number = cond (eqb number 0) H L

-- a row's seven fields, in the header's order
unfoldable pub field_texts : Row → List (List ℕ)
field_texts r =
    digits r.hour
    ∷ (letter (zone_by r.zone) ∷ [])
    ∷ digits r.place
    ∷ decimal r.entry
    ∷ decimal r.exit
    ∷ decimal r.title
    ∷ decimal r.pooling
    ∷ []

-- a line's fields, with commas between them
abbrev pub joined : List (List ℕ) → List ℕ
joined [] = []
joined (f ∷ []) = f
joined (f ∷ g ∷ fs) = f ++ (comma ∷ joined (g ∷ fs))

-- a row's line, without the CR LF that ends it
unfoldable pub line_text : Row → List ℕ
line_text r = joined (field_texts r)

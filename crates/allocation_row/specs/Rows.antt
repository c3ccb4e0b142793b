-- One line: by itself its form (cause 14), then its fields (cause 15); and what it may say at its place (cause 16). Assumes nothing.
use Rattle.std.specs.Prelude.{ℕ, Bool, ◌&&◌, ◌||◌, not, cond, List, [], ◌∷◌, eqb, ltb, ℤ, length, Option, Some, None, Result, Err, ok_or}
use Prim.Native.Char.{code}
use Rattle.integers.specs.Lists.{every}
use Rattle.text.specs.Bytes.{quote_mark, carriage_return, line_feed}
use Rattle.text.specs.Numbers.{unsigned_of, amount_of}
use Rattle.csv_lines.specs.Lines.{fields, field_at}
use Rattle.allocation_row.specs.declared.Row.{Row}
use Rattle.allocation_row.specs.declared.Zone.{Zone}
use Rattle.allocation_row.specs.declared.Zone.TheVariants.{H, L}
use Rattle.allocation_row.specs.declared.FileCause.{FileCause}
use Rattle.allocation_row.specs.declared.FileCause.TheVariants.{Form, Field}

-- ---- the form

-- "No .. quote mark or stray CR or LF": within a line each CR and each LF is a stray one
abbrev pub is_plain : ℕ → Bool
is_plain x = not (eqb x quote_mark || (eqb x carriage_return || eqb x line_feed))

-- a line's form: plain bytes, and "Each has seven fields" (an empty line has one)
abbrev pub is_form : List ℕ → Bool
is_form l = every is_plain l && eqb (length (fields l)) 7

-- ---- the fields

-- the zones' letters
abbrev pub letter : Zone → ℕ
letter H = code "H"
letter L = code "L"

-- "Zones: 0 is H, 1 is L."
abbrev pub zone_number : Zone → ℕ
zone_number H = 0
zone_number L = 1

-- "z is the letter H or L"
abbrev pub zone_of : List ℕ → Option Zone
zone_of [] = None
zone_of (x ∷ []) = cond (eqb x (letter H)) (Some H) (cond (eqb x (letter L)) (Some L) None)
zone_of (x ∷ y ∷ ys) = None

-- seven fields as a row, if each is well-formed, with the zone's number
unfoldable pub as_row : Option ℕ → Option Zone → Option ℕ → Option ℤ → Option ℤ → Option ℤ → Option ℤ → Option Row
as_row None z g a b c d = None
as_row (Some h) None g a b c d = None
as_row (Some h) (Some z) None a b c d = None
as_row (Some h) (Some z) (Some g) None b c d = None
as_row (Some h) (Some z) (Some g) (Some a) None c d = None
as_row (Some h) (Some z) (Some g) (Some a) (Some b) None d = None
as_row (Some h) (Some z) (Some g) (Some a) (Some b) (Some c) None = None
as_row (Some h) (Some z) (Some g) (Some a) (Some b) (Some c) (Some d) =
    Some (record { hour = h; zone = zone_number z; place = g; entry = a; exit = b; title = c; pooling = d })

-- the fields of a line, in the header's order
abbrev pub fields_of : List ℕ → Option Row
fields_of l =
    as_row (unsigned_of (field_at 0 l)) (zone_of (field_at 1 l)) (unsigned_of (field_at 2 l))
    (amount_of (field_at 3 l)) (amount_of (field_at 4 l)) (amount_of (field_at 5 l)) (amount_of (field_at 6 l))

-- ---- the line

-- "within one line 14, then 15": its form, then its fields
abbrev pub row_of : List ℕ → Result Row FileCause
row_of l = cond (is_form l) (ok_or (fields_of l) Field) (Err Form)

-- "All lines have the first line's h and z; g runs 0, 1, 2 and on, to 127 at most": a row may stand at place k, after a first line with
-- h and z
abbrev pub follows : ℕ → ℕ → ℕ → Row → Bool
follows h z k r = (eqb r.hour h && eqb r.zone z) && (eqb r.place k && ltb k 128)

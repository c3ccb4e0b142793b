-- The bytes that have a name here. Assumes nothing.
use Rattle.std.specs.Prelude.{ℕ, List, [], ◌∷◌}
use Prim.Native.Char.{code}
use Prim.Native.String.{String, [] as end, ◌∷◌ as ◌then◌}

-- a text as its bytes, a byte for each character (the texts here are ASCII)
abbrev pub bytes : String → List ℕ
bytes end = []
bytes (c then cs) = code c ∷ bytes cs

-- the bytes that part a line's fields, mark a quoted text, or end a line
abbrev pub comma : ℕ
comma = code ","

abbrev pub quote_mark : ℕ
quote_mark = code "\""

abbrev pub carriage_return : ℕ
carriage_return = code "\r"

abbrev pub line_feed : ℕ
line_feed = code "\n"

-- "Lines end in CR LF"
unfoldable pub line_end : List ℕ
line_end = carriage_return ∷ line_feed ∷ []

-- the bytes of numbers
abbrev pub minus_sign : ℕ
minus_sign = code "-"

abbrev pub point : ℕ
point = code "."

abbrev pub digit0 : ℕ
digit0 = code "0"

abbrev pub digit9 : ℕ
digit9 = code "9"

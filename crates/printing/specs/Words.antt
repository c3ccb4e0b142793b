-- What is said. Assumes nothing.
use Rattle.std.specs.Prelude.{ℕ, ◌+◌, Bool, cond, List, [], ◌∷◌, ◌++◌, eqb, ℤ, pos, get_or}
use Prim.Native.Char.{code}
use Rattle.text.specs.Bytes.{bytes}
use Rattle.text.specs.Decimals.{digits, decimal}
use Rattle.rules.specs.declared.Day.{Day}
use Rattle.rules.specs.declared.ZoneDay.{ZoneDay}
use Rattle.rules.specs.declared.Refusal.{Refusal}
use Rattle.rules.specs.Refusals.{number}
use Rattle.checking.specs.Same.{mark_of, same_day}

-- ---- forms: each bar of a form stands for a number, and parts the words of a list of words
abbrev pub bar : ℕ
bar = code "|"

-- the bars up to a byte and with it, where so many were seen before
unfoldable pub bars : ℕ → ℕ → ℕ
bars seen b = cond (eqb b bar) (seen + 1) seen

-- a form, of which each byte becomes a piece by how many bars stand before it
unfoldable pub spelled : (ℕ → ℕ → List ℕ) → ℕ → List ℕ → List ℕ
spelled piece seen [] = []
spelled piece seen (b ∷ bs) = piece seen b ++ spelled piece (bars seen b) bs

-- in place of a bar the row's number of its turn; every other byte is itself
unfoldable pub number_or_byte : List ℤ → ℕ → ℕ → List ℕ
number_or_byte row seen b = cond (eqb b bar) (decimal (get_or row seen (pos 0))) (b ∷ [])

-- a form with the numbers of a row
unfoldable pub filled : List ℕ → List ℤ → List ℕ
filled form row = spelled (number_or_byte row) 0 form

-- the bytes of one word; no bar is in a word
unfoldable pub letter_of : ℕ → ℕ → ℕ → List ℕ
letter_of which seen b = cond (eqb b bar) [] (cond (eqb seen which) (b ∷ []) [])

-- a word of a list, by its number, from 0
unfoldable pub word : List ℕ → ℕ → List ℕ
word names which = spelled (letter_of which) 0 names

-- ---- verdicts

-- a comparison: its mark, then its words
unfoldable pub holds_text : List ℕ → Bool → List ℕ
holds_text words holds = mark_of holds ++ words

unfoldable pub kept_text : List ℕ → Bool → List ℕ
kept_text words kept = holds_text words kept ++ bytes " kept"

-- of what was lent to a call that turned it away
unfoldable pub lent_text : Bool → Bool → Bool → List ℕ
lent_text table quantity money =
    kept_text (bytes "table") table ++ kept_text (bytes "quantity") quantity ++ kept_text (bytes "money") money

-- ---- the record
unfoldable pub closed_text : Bool → List ℕ
closed_text closed = cond closed (bytes " closed") []

unfoldable pub totals_text : ℤ → ℤ → List ℕ
totals_text sold bought = filled (bytes " sold | bought |") (sold ∷ bought ∷ [])

unfoldable pub zone_text : ZoneDay → List ℕ
zone_text z = decimal z.hours ++ closed_text z.closed ++ totals_text z.sold z.bought

-- for how many users, and of how many hours
unfoldable pub users_text : ℤ → ℤ → List ℕ
users_text users length = filled (bytes "users |, length |") (users ∷ length ∷ [])

unfoldable pub day_text : Day → List ℕ
day_text d = users_text d.users d.length ++ bytes ", H " ++ zone_text d.h ++ bytes ", L " ++ zone_text d.l

-- ---- refusals
unfoldable pub refused_text : ℕ → List ℕ
refused_text n = bytes ": refused " ++ digits n

-- by its number: that, and whether the record that came back is the one that was given
unfoldable pub refusal_by : ℕ → Day → Day → List ℕ
refusal_by n answered given = refused_text n ++ kept_text (bytes "record") (same_day answered given)

unfoldable pub refusal_text : Refusal → Day → List ℕ
refusal_text r given = refusal_by (number r.cause) r.day given

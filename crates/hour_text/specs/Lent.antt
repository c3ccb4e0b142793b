-- What the program's functions ask of the lists that they are lent, and what they leave. Assumes nothing.
use Rattle.std.specs.Prelude.{◌≡◌, List, ℕ, ◌+◌, ◌*◌, ◌≤◌, ℤ, pos, ◌+ℤ◌, length, get_or, take, Result, Ok, Err, IsOkAnd}
use Rattle.integers.specs.Lists.{tabulate, AtMost}
use Rattle.rules.specs.Limits.{users_most, position_most}
use Rattle.rules.specs.declared.Amounts.{Amounts}
use Rattle.rules.specs.declared.Cause.{Cause}
use Rattle.rules.specs.declared.Outputs.{Outputs}
use Rattle.rules.specs.Days.{part}
use Rattle.text.specs.declared.writing.Writer.{Writer}
use Rattle.text.specs.Puts.{Room, Wrote}
use Rattle.report.specs.Text.{hour_text}

-- the sums of two lists, place by place
unfoldable pub sums : List ℤ → List ℤ → List ℤ
sums xs ys = tabulate (λ k. get_or xs k (pos 0) +ℤ get_or ys k (pos 0)) (length xs)

-- three lists of one length, and sums that are positions
pub record Adds (xs ys out : List ℤ) : Type 0 where
  pub seconds : length ys ≡ length xs
  pub outs : length out ≡ length xs
  pub small : AtMost position_most (sums xs ys)

-- the positions after settlement of the first n users of a zone
unfoldable pub afters : ℤ → ℕ → List ℤ → List ℤ
afters zone n table = take n (part zone table)

-- the text of an hour that is settled, by its lists and the table
unfoldable pub settled_text : ℤ → List ℤ → List ℤ → List ℤ → List ℕ
settled_text zone table quantity money =
    let after = afters zone (length quantity) table in
    hour_text (sums quantity after) quantity money after

-- the bytes of the longest text: the heading, and the longest line of each user
abbrev pub text_most : ℕ
text_most = 24 + users_most * 106

-- room for the longest text, the whole table, lists of one length of no more users than a day has, and sums that are positions
pub record Settled (w : Writer) (zone : ℤ) (table : List ℤ) (o : Outputs) (before : List ℤ) : Type 0 where
  pub room : Room w text_most
  pub places : length table ≡ 256
  pub users : length o.quantity.now ≤ users_most
  pub moneys : length o.money.now ≡ length o.quantity.now
  pub befores : length before ≡ length o.quantity.now
  pub small : AtMost position_most (sums o.quantity.now (afters zone (length o.quantity.now) table))

-- room for the longest text, and a list of positions before settlement as long as the users' lists
pub record TextRoom (w : Writer) (before entry : List ℤ) : Type 0 where
  pub room : Room w text_most
  pub befores : length before ≡ length entry
  pub users : length entry ≤ users_most

-- room for the longest text, and four lists with a place for each user
pub record ReadLists (w : Writer) (n : ℕ) (a : Amounts) : Type 0 where
  pub room : Room w text_most
  pub users : n ≤ users_most
  pub entry : n ≤ length a.entries.now
  pub exit : n ≤ length a.exits.now
  pub title : n ≤ length a.titles.now
  pub pooling : n ≤ length a.poolings.now

-- what a function leaves that may be refused: the text, or the cause and the writer as it was
abbrev pub Writes : Result (List ℕ) Cause → Writer → Writer → Result Unit Cause → Type 0
Writes text w w' (Ok u) = IsOkAnd text (Wrote w w')
Writes text w w' (Err k) = (text ≡ Err k) × (w' ≡ w)

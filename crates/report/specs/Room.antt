-- The room that the text of an hour takes. Assumes nothing.
use Rattle.std.specs.Prelude.{◌+◌, ◌*◌, ◌≤◌, ◌≡◌, List, ℤ, length}
use Rattle.text.specs.declared.writing.Writer.{Writer}
use Rattle.text.specs.Puts.{Room}

-- four lists of one length, of at most 128 users, and room for the heading and for the longest line of each user
pub record HourRoom (w : Writer) (before quantity money after : List ℤ) : Type 0 where
  pub befores : length before ≡ length quantity
  pub moneys : length money ≡ length quantity
  pub afters : length after ≡ length quantity
  pub users : length quantity ≤ 128
  pub room : Room w (24 + length quantity * 106)

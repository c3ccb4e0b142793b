-- What the private functions are given, what they count on once 18 and 19 are tested, and the lines that they write. Nobody needs this to believe the call's
-- contract. Assumes nothing.
use Rattle.std.specs.Prelude.{◌≡◌, true, List, map, ℕ, ◌^◌, ◌≤◌, ◌<◌, pos, nat_abs, length}
use Rattle.integers.specs.Lists.{every}
use Rattle.integers.specs.Ranges.{natural}
use Rattle.rules.specs.Limits.{users_most}
use Rattle.allocation_text.specs.Text.{line_text}
use Rattle.allocation_writer.specs.declared.HourFile.{HourFile}
use Rattle.allocation_writer.specs.Writer.{Content, content, rows_of, ended, nine_digits}

-- the content that is given
abbrev pub content_of : HourFile → Content
content_of f = content f.hour f.zone f.users f.amounts.now

-- what is so where 18 does not apply
pub record Counted (w : Content) : Type 0 where
  pub users : pos (natural w.users) ≡ w.users
  pub some : 1 ≤ natural w.users
  pub few : natural w.users ≤ users_most
  pub zone : pos (natural w.zone) ≡ w.zone
  pub zones : natural w.zone ≤ 1
  pub entry : length w.entry ≡ natural w.users
  pub exit : length w.exit ≡ natural w.users
  pub title : length w.title ≡ natural w.users
  pub pooling : length w.pooling ≡ natural w.users

-- and where 19 does not
pub record Fitting (w : Content) : Type 0 where
  pub hour : pos (natural w.hour) ≡ w.hour
  pub short : nat_abs w.hour < 10 ^ 9
  pub entry : every nine_digits w.entry ≡ true
  pub exit : every nine_digits w.exit ≡ true
  pub title : every nine_digits w.title ≡ true
  pub pooling : every nine_digits w.pooling ≡ true

abbrev pub Tested : Content → Type 0
Tested w = Counted w × Fitting w

-- the lines of its users
unfoldable pub lines_text : Content → List ℕ
lines_text w = ended (map line_text (rows_of w))

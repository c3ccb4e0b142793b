-- The text that the program prints. Assumes nothing.
use Rattle.std.specs.Prelude.{ℕ, zero, suc, List, [], ◌++◌, ℤ, pos, length, get_or}
use Rattle.text.specs.Bytes.{bytes, line_end}
use Rattle.text.specs.Decimals.{decimal, field}

-- the heading line of case A
unfoldable pub heading : List ℕ
heading = bytes "g,before,q,money,after\r\n"

-- "a line of place, position before, quantity, money and position after"
unfoldable pub user_line : ℤ → ℤ → ℤ → ℤ → ℤ → List ℕ
user_line place before quantity money after =
    field place ++ field before ++ field quantity ++ field money ++ decimal after ++ line_end

-- "the one line `refused,` with the number"
unfoldable pub refused_line : ℕ → List ℕ
refused_line n = bytes "refused," ++ decimal (pos n) ++ line_end

-- the line of the user at a place of the four lists
unfoldable pub line_at : List ℤ → List ℤ → List ℤ → List ℤ → ℕ → List ℕ
line_at before quantity money after k =
    user_line (pos k) (get_or before k (pos 0)) (get_or quantity k (pos 0)) (get_or money k (pos 0)) (get_or after k (pos 0))

-- the lines of the first n users
unfoldable pub user_lines : List ℤ → List ℤ → List ℤ → List ℤ → ℕ → List ℕ
user_lines before quantity money after zero = []
user_lines before quantity money after (suc n) = user_lines before quantity money after n ++ line_at before quantity money after n

-- "the heading line of case A, then for each user a line"
unfoldable pub hour_text : List ℤ → List ℤ → List ℤ → List ℤ → List ℕ
hour_text before quantity money after = heading ++ user_lines before quantity money after (length quantity)

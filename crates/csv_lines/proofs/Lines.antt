-- Where a line ends, that it is within the bytes, and how the lines go on after the first. Assumes nothing.
use mathlib.Core.Path.{◌≡◌, refl}
use mathlib.Core.Bool.{Bool, true, false}
use mathlib.Core.List.{List, [], ◌∷◌}
use Prim.Native.Nat.{ℕ, suc, ◌+◌, ◌≤◌, ◌<◌}
use native.Mathlib.Nat.{suc-add}
use native.Mathlib.Numerals.{add-one}
use native.Mathlib.Omega.{arith}
use lib.ListN.{length, get_or, take, drop, length-drop, drop_of_length-le}
use lib.Seq.{drop-cons, drop-drop, length-take-le}
use Rattle.text.specs.Bytes.{carriage_return, line_feed}
use Rattle.csv_lines.specs.Lines.{is_pair, at_byte, lines}
use Rattle.csv_lines.specs.Steps.{unless_end, line_len, line_at}

-- ---- a line ends at a pair
pub pair_here : (s : List ℕ) (i : ℕ) → i + 1 < length s → get_or s i 0 ≡ carriage_return → get_or s (i + 1) 0 ≡ line_feed → line_len (drop i s) ≡ 0
pair_here s i h e f =
    let g : i < length s = omega arith in
    rw (drop-cons s i 0 g, ← add-one i, drop-cons s (i + 1) 0 h, e, f)

-- ---- a line is within the bytes
pub end_within : (b : Bool) (n m : ℕ) → n ≤ m → unless_end b n ≤ suc m
end_within true n m h = omega arith
end_within false n m h = omega arith

-- from the first byte on
line_len_lem : (s : List ℕ) → line_len s ≤ length s
line_len_lem [] = omega arith
line_len_lem (x ∷ []) = omega arith
line_len_lem (x ∷ y ∷ ys) = end_within (is_pair x y) (line_len (y ∷ ys)) (length (y ∷ ys)) (line_len_lem (y ∷ ys))

-- a part that is within the bytes from their first on is so from a position on
pub part_within : (len : List ℕ → ℕ) → ((s : List ℕ) → len s ≤ length s)
    → (s : List ℕ) (at : ℕ) → at ≤ length s → at + len (drop at s) ≤ length s
part_within len within s at h = omega (arith, within (drop at s), length-drop at s)

-- from a position on
pub line_within : (s : List ℕ) (at : ℕ) → at ≤ length s → at + line_len (drop at s) ≤ length s
line_within = part_within line_len line_len_lem

-- the line's own length
line-length : (s : List ℕ) (at : ℕ) → length (line_at at s) ≡ line_len (drop at s)
line-length s at = length-take-le _ (drop at s) (line_len_lem (drop at s))

-- the line, by its length
pub line_at_within : (s : List ℕ) (at : ℕ) (l : List ℕ) → l ≡ line_at at s → at ≤ length s → at + length l ≤ length s
line_at_within s at l e h = rw (e, line-length s at) (line_within s at h)

-- ---- the first line, and the lines after it
first_line : (s : List ℕ) → 0 < length s → lines s ≡ take (line_len s) s ∷ lines (drop (line_len s + 2) s)
first_line [] h = absurd (omega arith)
first_line (x ∷ []) h = refl
first_line (x ∷ y ∷ ys) h = go (is_pair x y) (first_line (y ∷ ys) (omega arith))
  where
    go : (b : Bool) → lines (y ∷ ys) ≡ take (line_len (y ∷ ys)) (y ∷ ys) ∷ lines (drop (line_len (y ∷ ys) + 2) (y ∷ ys))
        → at_byte b x (lines ys) (lines (y ∷ ys))
        ≡ take (unless_end b (line_len (y ∷ ys))) (x ∷ y ∷ ys) ∷ lines (drop (unless_end b (line_len (y ∷ ys)) + 2) (x ∷ y ∷ ys))
    go true e = refl
    go false e = rw (suc-add (line_len (y ∷ ys)) 2, e)

-- the same at a position of the file
pub lines_at : (s : List ℕ) (at : ℕ) → at < length s
    → lines (drop at s) ≡ line_at at s ∷ lines (drop (at + length (line_at at s) + 2) s)
lines_at s at h =
    let p : 0 < length (drop at s) = simp length-drop (omega arith) in
    let q : at + line_len (drop at s) + 2 ≡ at + (line_len (drop at s) + 2) = omega arith in
    rw (line-length s at, q, ← drop-drop (line_len (drop at s) + 2) at s) (first_line (drop at s) p)

-- "No line begins at the end of the file."
pub lines_end : (s : List ℕ) (at : ℕ) → length s ≤ at → lines (drop at s) ≡ []
lines_end s at h = rw (drop_of_length-le s h)

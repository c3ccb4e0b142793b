-- Small contents, and what the definitions say of them, which proofs/Examples.antt computes. Assumes nothing.
use Rattle.std.specs.Prelude.{ℕ, ◌-◌, ◌^◌, ◌≡◌, List, [], ◌∷◌, ◌++◌, map, ℤ, pos, negsuc, replicate}
use Prim.Native.String.{String}
use Rattle.rules.specs.Answers.{number_by}
use Rattle.text.specs.Bytes.{bytes}
use Rattle.allocation_file.specs.File.{header}
use Rattle.file_guarantees.specs.Examples.{case_a_text}
use Rattle.allocation_writer.specs.Writer.{Content, content_listed, text_of, number, write_cause}

-- ---- texts

-- "the file of document 01": case A's lists give case A's file
abbrev pub CaseAWritten : Type 0
CaseAWritten =
    text_of (content_listed (pos 1) (pos 0) (pos 3)
    (pos 30000000 ∷ pos 15000000 ∷ pos 2000000 ∷ [])
    (negsuc 9999999 ∷ negsuc 4999999 ∷ negsuc 4999999 ∷ [])
    (pos 0 ∷ pos 0 ∷ pos 0 ∷ [])
    (pos 0 ∷ pos 0 ∷ pos 0 ∷ []))
    ≡ bytes case_a_text

-- a content and its lines
pub record Shown : Type 0 where
  pub content : Content
  pub lines : String

abbrev pub shown : Content → String → Shown
shown w t = record { content = w; lines = t }

-- one user with these numbers
abbrev pub alone : ℤ → ℤ → ℤ → ℤ → ℤ → ℤ → Content
alone h z a b c d = content_listed h z (pos 1) (a ∷ []) (b ∷ []) (c ∷ []) (d ∷ [])

-- n users, each with the amounts 1, -1, 20 and -20
abbrev pub alike : ℕ → Content
alike n = content_listed (pos 24) (pos 1) (pos n) (replicate n (pos 1)) (replicate n (negsuc 0)) (replicate n (pos 20)) (replicate n (negsuc 19))

-- hour 0 and no amounts; the largest and the least of nine digits; places of one digit and of two
unfoldable pub texts : List Shown
texts =
    shown (alone (pos 0) (pos 0) (pos 0) (pos 0) (pos 0) (pos 0)) "0,H,0,0,0,0,0\r\n"
    ∷ shown (alone (pos 999999999) (pos 1) (pos 999999999) (negsuc 999999998) (pos 100000000) (negsuc 99999999))
    "999999999,L,0,999999999,-999999999,100000000,-100000000\r\n"
    ∷ shown (alike 11)
    "24,L,0,1,-1,20,-20\r\n24,L,1,1,-1,20,-20\r\n24,L,2,1,-1,20,-20\r\n24,L,3,1,-1,20,-20\r\n24,L,4,1,-1,20,-20\r\n24,L,5,1,-1,20,-20\r\n24,L,6,1,-1,20,-20\r\n24,L,7,1,-1,20,-20\r\n24,L,8,1,-1,20,-20\r\n24,L,9,1,-1,20,-20\r\n24,L,10,1,-1,20,-20\r\n"
    ∷ []

abbrev pub TextsComputed : Type 0
TextsComputed = map (λ e. text_of e.content) texts ≡ map (λ e. header ++ bytes e.lines) texts

-- ---- causes

-- a content, how many bytes are lent, and the cause's number: 0 for none
pub record Example : Type 0 where
  pub content : Content
  pub lent : ℕ
  pub cause : ℕ

abbrev pub given : Content → ℕ → ℕ → Example
given w n k = record { content = w; lent = n; cause = k }

-- lists of these lengths for the count n, in the zone z
abbrev pub lists : ℤ → ℤ → ℕ → ℕ → ℕ → ℕ → Content
lists z n a b c d = content_listed (pos 1) z n (replicate a (pos 0)) (replicate b (pos 0)) (replicate c (pos 0)) (replicate d (pos 0))

-- the least and the largest number of 64 bits, and the first of ten digits on either side of zero
least : ℤ
least = negsuc (2 ^ 63 - 1)

most : ℤ
most = pos (2 ^ 63 - 1)

ten_digits : ℤ
ten_digits = pos (10 ^ 9)

minus_ten_digits : ℤ
minus_ten_digits = negsuc (10 ^ 9 - 1)

unfoldable pub causes : List Example
unfolding least most ten_digits minus_ten_digits
causes =
    -- 18: the count
    given (lists (pos 0) (pos 0) 0 0 0 0) 9000 18
    ∷ given (lists (pos 0) (pos 1) 1 1 1 1) 9000 0
    ∷ given (lists (pos 0) (pos 128) 128 128 128 128) 9000 0
    ∷ given (lists (pos 0) (pos 129) 129 129 129 129) 9000 18
    ∷ given (lists (pos 0) (negsuc 0) 0 0 0 0) 9000 18
    ∷ given (lists (pos 0) least 0 0 0 0) 9000 18
    ∷ given (lists (pos 0) most 1 1 1 1) 9000 18
    -- the zone
    ∷ given (lists (pos 1) (pos 1) 1 1 1 1) 9000 0
    ∷ given (lists (pos 2) (pos 1) 1 1 1 1) 9000 18
    ∷ given (lists (negsuc 0) (pos 1) 1 1 1 1) 9000 18
    ∷ given (lists least (pos 1) 1 1 1 1) 9000 18
    -- each list, too short and too long
    ∷ given (lists (pos 0) (pos 2) 1 2 2 2) 9000 18
    ∷ given (lists (pos 0) (pos 2) 3 2 2 2) 9000 18
    ∷ given (lists (pos 0) (pos 2) 2 1 2 2) 9000 18
    ∷ given (lists (pos 0) (pos 2) 2 3 2 2) 9000 18
    ∷ given (lists (pos 0) (pos 2) 2 2 1 2) 9000 18
    ∷ given (lists (pos 0) (pos 2) 2 2 3 2) 9000 18
    ∷ given (lists (pos 0) (pos 2) 2 2 2 1) 9000 18
    ∷ given (lists (pos 0) (pos 2) 2 2 2 3) 9000 18
    -- 19: the hour
    ∷ given (alone (negsuc 0) (pos 0) (pos 0) (pos 0) (pos 0) (pos 0)) 9000 19
    ∷ given (alone least (pos 0) (pos 0) (pos 0) (pos 0) (pos 0)) 9000 19
    ∷ given (alone ten_digits (pos 0) (pos 0) (pos 0) (pos 0) (pos 0)) 9000 19
    ∷ given (alone most (pos 0) (pos 0) (pos 0) (pos 0) (pos 0)) 9000 19
    -- each amount; a minus is no digit
    ∷ given (alone (pos 1) (pos 0) ten_digits (pos 0) (pos 0) (pos 0)) 9000 19
    ∷ given (alone (pos 1) (pos 0) (pos 0) minus_ten_digits (pos 0) (pos 0)) 9000 19
    ∷ given (alone (pos 1) (pos 0) (pos 0) (pos 0) most (pos 0)) 9000 19
    ∷ given (alone (pos 1) (pos 0) (pos 0) (pos 0) (pos 0) least) 9000 19
    ∷ given (alone (pos 1) (pos 0) (negsuc 999999998) (negsuc 999999998) (negsuc 999999998) (negsuc 999999998)) 9000 0
    -- 20: exactly enough is enough
    ∷ given (alone (pos 1) (pos 0) (pos 0) (pos 0) (pos 0) (pos 0)) 40 0
    ∷ given (alone (pos 1) (pos 0) (pos 0) (pos 0) (pos 0) (pos 0)) 39 20
    ∷ given (alone (pos 1) (pos 0) (pos 0) (pos 0) (pos 0) (pos 0)) 0 20
    -- the order
    ∷ given (alone ten_digits (pos 2) (pos 0) (pos 0) (pos 0) (pos 0)) 9000 18
    ∷ given (alone (pos 1) (pos 2) (pos 0) (pos 0) (pos 0) (pos 0)) 0 18
    ∷ given (alone ten_digits (pos 0) (pos 0) (pos 0) (pos 0) (pos 0)) 0 19 ∷ []

abbrev pub CausesComputed : Type 0
CausesComputed = map (λ e. number_by number (write_cause e.content (replicate e.lent 0))) causes ≡ map (λ e. e.cause) causes

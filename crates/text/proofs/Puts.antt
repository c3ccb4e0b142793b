-- Text that is written in parts, one after the other. Assumes nothing.
use mathlib.Core.Path.{◌≡◌, refl, sym, ap, ◌∙◌}
use mathlib.Core.List.{List, [], ◌∷◌, ◌++◌, append_assoc}
use Prim.Native.Nat.{ℕ, ◌+◌, ◌≤◌, ◌<◌}
use native.Mathlib.Numerals.{add-one}
use native.Mathlib.Omega.{arith}
use lib.IntN.{ℤ}
use lib.ListN.{length, take, drop, set, length-append, length-drop}
use lib.Seq.{length-take-le, take_at, drop-append-add, drop-drop, set_split, append_snoc, take-length, paste, paste-zero}
use mir.Syntax.{w64}
use mir.Val.{to_z, of_z}
use Rattle.text.specs.declared.writing.Writer.{Writer}
use Rattle.text.specs.Puts.{Put, Room, Wrote}

drop_past : (p d : List ℕ) (n k : ℕ) → length p ≡ n → drop (n + k) (p ++ d) ≡ drop k d
drop_past p d n k e = rw (← e) (drop-append-add p d k)

module _ {out : List ℕ} {at : ℕ} {a o₁ : List ℕ} {e₁ : ℕ} (p : Put out at a o₁ e₁) where
  head_length : length (take at out ++ a) ≡ at + length a
  head_length = let r = p.room in length-append (take at out) a ∙ rw (length-take-le at out (omega arith))

  -- nothing is longer or shorter than it was
  pub put_length : length o₁ ≡ length out
  put_length = rw (p.bytes, length-append (take at out ++ a), head_length, length-drop) (omega (arith, p.room))

  -- one text, then another where it ends
  pub put_then : {b o₂ : List ℕ} {e₂ : ℕ} → Put o₁ e₁ b o₂ e₂ → Put out at (a ++ b) o₂ e₂
  put_then {b} {o₂} {e₂} q = record { ends = ends; room = room; bytes = bytes }
    where
      ends : e₂ ≡ at + length (a ++ b)
      ends = rw (length-append a b) (omega (arith, p.ends, q.ends))

      room : at + length (a ++ b) ≤ length out
      room = rw (length-append a b) (omega (arith, p.ends, q.room, put_length))

      same : at + length a + length b ≡ at + (length a + length b)
      same = omega arith

      rest : drop (e₁ + length b) o₁ ≡ drop (at + length (a ++ b)) out
      rest =
          rw (p.bytes, p.ends, length-append a b)
          (drop_past (take at out ++ a) _ (at + length a) (length b) head_length ∙ drop-drop (length b) (at + length a) out ∙ rw (same))

      start : take e₁ o₁ ≡ take at out ++ a
      start = rw (p.bytes, p.ends) (take_at (take at out ++ a) _ _ head_length)

      bytes : o₂ ≡ take at out ++ (a ++ b) ++ drop (at + length (a ++ b)) out
      bytes =
          q.bytes
          ∙ rw rest
          (ap (λ (l : List ℕ). l ++ b ++ drop (at + length (a ++ b)) out) start
          ∙ ap (λ (l : List ℕ). l ++ drop (at + length (a ++ b)) out) (append_assoc (take at out) a b))

pub put_byte : (out : List ℕ) (at b : ℕ) → at < length out → Put out at (b ∷ []) (set out at b) (at + 1)
put_byte out at b h =
    record { ends = refl; room = omega arith; bytes = set_split out at b h ∙ rw (add-one) (sym (append_snoc (take at out) b _)) }

-- the first i bytes of a text, stored one by one, are the text where they are all of it
pub put_all : (out : List ℕ) (at : ℕ) (text out' : List ℕ) (i : ℕ)
    → at + length text ≤ length out → i ≡ length text → out' ≡ paste out at text i
    → Put out at text out' (at + i)
put_all out at text out' i h e k = record { ends = rw e; room = h; bytes = k ∙ rw (e, take-length text) }

pub put_none : (out : List ℕ) (at : ℕ) → at ≤ length out → Put out at [] out at
put_none out at h = record { ends = omega arith; room = omega arith; bytes = paste-zero out at [] }

-- ---- the same of a writer

pub wrote_none : (w : Writer) → Room w 0 → Wrote w w []
wrote_none w h = record { same = refl; put = put_none w.out.now w.end (omega (arith, h)) }

-- nothing is longer or shorter than it was
pub wrote_long : {w w₁ : Writer} {a : List ℕ} → Wrote w w₁ a → length w₁.out.now ≡ length w.out.now
wrote_long p = put_length p.put

module _ {w w₁ : Writer} {a : List ℕ} (p : Wrote w w₁ a) where
  pub wrote_then : {w₂ : Writer} {b : List ℕ} → Wrote w₁ w₂ b → Wrote w w₂ (a ++ b)
  wrote_then q = record { same = q.same ∙ p.same; put = put_then p.put q.put }

  -- the room that is left
  pub room_left : (n : ℕ) → Room w (length a + n) → Room w₁ n
  room_left n h = omega (arith, h, p.put.ends, put_length p.put)

-- ---- a text that is written part by part

-- parts, one after the other
abbrev pub together : List (List ℕ) → List ℕ
together [] = []
together (a ∷ parts) = a ++ together parts

-- of the text that a writer is to write from w₀ on, these parts are left at w: there is room for them, and they make it whole
pub record Writing (w₀ : Writer) (text : List ℕ) (w : Writer) (parts : List (List ℕ)) : Type 0 where
  pub room : Room w (length (together parts))
  pub whole : (w' : Writer) → Wrote w w' (together parts) → Wrote w₀ w' text

-- all parts are left
pub writing_starts : {w : Writer} (text : List ℕ) (parts : List (List ℕ)) → text ≡ together parts → Room w (length text) → Writing w text w parts
writing_starts text parts e h = record { room = rw e at h; whole = λ w' p. rw (← e) at p }

module _ {w₀ : Writer} {text : List ℕ} {w : Writer} where
  -- there is room for the first of them
  pub part-fits : {a : List ℕ} {parts : List (List ℕ)} → Writing w₀ text w (a ∷ parts) → Room w (length a)
  part-fits {a = a} {parts = parts} p = omega (arith, p.room, length-append a (together parts))

  -- it is written
  pub part_written : {a : List ℕ} {parts : List (List ℕ)} → Writing w₀ text w (a ∷ parts) → {w' : Writer} → Wrote w w' a → Writing w₀ text w' parts
  part_written {a = a} {parts = parts} p {w' = w'} q = record {
    room = room_left q (length (together parts)) (omega (arith, p.room, length-append a (together parts)));
    whole = λ w'' r. p.whole w'' (wrote_then q r);
  }

  -- none is left
  pub writing_ends : Writing w₀ text w [] → Wrote w₀ w text
  writing_ends p = p.whole w (wrote_none w p.room)

-- the text of a number that a function's proof reads back from its bits
pub wrote_read : (text : ℤ → List ℕ) {x : ℤ} → to_z w64 (of_z w64 x) ≡ x → {w w' : Writer} → Wrote w w' (text (to_z w64 (of_z w64 x))) → Wrote w w' (text x)
wrote_read text e p = rw e at p

-- Texts said one after the other. Assumes nothing.
use mathlib.Core.Path.{◌≡◌, sym, ap, ◌∙◌}
use mathlib.Core.List.{List, [], ◌++◌, append-nil, append_assoc}
use Prim.Native.Nat.{ℕ, ◌+◌, ◌-◌, ◌≤◌, min}
use native.Mathlib.Omega.{arith}
use borrow.Rule.Slice.PartMut.{put_mid}
use lib.ListN.{length, take}
use lib.Seq.{take-append-add}
use Rattle.std.proofs.Common.{inl, inr}
use Rattle.std.proofs.Math.Seq.{take-nil}
use Rattle.std.proofs.lemmas.Bool.{cases_lt}
use Rattle.std.proofs.lemmas.List.{take_all, take_min, take-append-le, length-append, length-take, length-take-le}
use Rattle.std.proofs.lemmas.Slice.{take-put_mid}
use Rattle.printing.specs.Said.{said}

pub said_none : (room : ℕ) (text : List ℕ) → said room text [] ≡ text
unfolding said
said_none room text = rw (take-nil {A = ℕ} (room - length text)) (append-nil text)

-- the first n of two lists, one after the other
take_both : (n : ℕ) (p q : List ℕ) → take n p ++ take (n - length p) q ≡ take n (p ++ q)
take_both n p q = elim (cases_lt n (length p)) [
  | inl cut ↦
      let none : n - length p ≡ 0 = omega arith in
      rw (none, append-nil (take n p)) (sym (take-append-le n p q (omega arith)))
  | inr fits ↦
      let all : length p + (n - length p) ≡ n = omega arith in
      rw (take_all n p fits) (sym (take-append-add p q (n - length p)) ∙ ap (λ m. take m (p ++ q)) all)
]

-- one, then another after it
pub said_then : (room : ℕ) (text p q : List ℕ) → said room (said room text p) q ≡ said room text (p ++ q)
unfolding said
said_then room text p q =
    let n = room - length text in
    let left : room - length (text ++ take n p) ≡ n - length p = rw (length-append text (take n p), length-take n p) (omega arith) in
    rw left (append_assoc text (take n p) _ ∙ ap (λ more. text ++ more) (take_both n p q))

-- what was written after the text that ends at `end`
pub said_written : (room end n k : ℕ) (bytes more words text : List ℕ)
    → length bytes ≡ room
    → end ≤ room
    → take end bytes ≡ text
    → n ≡ min (room - end) (length words)
    → more ≡ take n words
    → take (end + n) (put_mid end k bytes more) ≡ said room text words
unfolding said
said_written room end n k bytes more words text long fits was size is =
    let size_more : length more ≡ n = rw is (length-take-le n words (omega arith)) in
    let size_text : length text ≡ end = rw (← was) (length-take-le end bytes (omega arith)) in
    take-put_mid end k bytes more (end + n) (omega arith) (omega arith) ∙ rw (was, is, size, size_text, take_min (room - end) words)

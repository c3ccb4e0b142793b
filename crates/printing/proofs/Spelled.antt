-- Forms that become a text byte by byte, and a text that was put at the start of other bytes. Assumes nothing.
use mathlib.Core.Path.{◌≡◌, refl, sym, ap, ◌∙◌}
use mathlib.Core.Bool.{Bool, true, false, cond}
use mathlib.Core.List.{List, ◌++◌}
use Prim.Native.Nat.{ℕ, ◌+◌, ◌≤◌, ◌<◌}
use native.Mathlib.Numerals.{add-one}
use native.Mathlib.Omega.{arith}
use lib.Dec.{eqb}
use lib.ListN.{length, get_or, take, drop, drop_of_length-le}
use lib.Seq.{drop-cons, take_at}
use Rattle.text.specs.Puts.{Put}
use Rattle.text.proofs.Puts.{put_length}
use Rattle.printing.specs.Said.{said}
use Rattle.printing.specs.Words.{bar, bars, spelled}
use Rattle.printing.proofs.Said.{said_none, said_then}

-- ---- a text that was put at the start of other bytes, as the part of them that it is
module _ {out text out' : List ℕ} {r : ℕ} (p : Put out 0 text out' r) where
  pub put_fits : r ≤ length out'
  put_fits = omega (arith, p.ends, p.room, put_length p)

  pub put_text : take r out' ≡ text
  put_text =
      let e : length text ≡ 0 + length text = omega arith in
      rw (p.bytes, p.ends) (take_at text _ _ e)

-- ---- a loop that says a form byte by byte, by how many bars it has seen, and has come to i: what is left to say makes of what has been said what the whole form makes
pub record Spelling (piece : ℕ → ℕ → List ℕ) (form : List ℕ) (room : ℕ) (old now : List ℕ) (seen i : ℕ) : Type 0 where
  pub left : said room now (spelled piece seen (drop i form)) ≡ said room old (spelled piece 0 form)
  pub few : seen ≤ i

-- the bars are no more than the bytes
bars_few : (seen b i : ℕ) → seen ≤ i → bars seen b ≤ i + 1
unfolding bars
bars_few seen b i h = go (eqb b bar)
  where
    go : (t : Bool) → cond t (seen + 1) seen ≤ i + 1
    go true = omega arith
    go false = omega arith

module _ {piece : ℕ → ℕ → List ℕ} {form : List ℕ} {room : ℕ} {old : List ℕ} where
  pub spelling_start : Spelling piece form room old old 0 0
  spelling_start = record { left = refl; few = omega arith }

  module _ {now : List ℕ} {seen i : ℕ} (s : Spelling piece form room old now seen i) where
    pub spelling_next : i < length form → {now' : List ℕ} {seen' : ℕ}
        → now' ≡ said room now (piece seen (get_or form i 0))
        → seen' ≡ bars seen (get_or form i 0)
        → Spelling piece form room old now' seen' (i + 1)
    unfolding spelled
    spelling_next h {now'} {seen'} next e =
        record {
          left = rw (next, said_then room now (piece seen (get_or form i 0))) (ap (said room now) rest ∙ s.left);
          few = rw e (bars_few seen (get_or form i 0) i s.few);
        }
      where
        rest : piece seen (get_or form i 0) ++ spelled piece seen' (drop (i + 1) form) ≡ spelled piece seen (drop i form)
        rest = rw (e, add-one, drop-cons form i 0 h)

    pub spelling_end : length form ≤ i → now ≡ said room old (spelled piece 0 form)
    unfolding spelled
    spelling_end h = sym (said_none room now) ∙ ap (said room now) (rw (drop_of_length-le form h)) ∙ s.left

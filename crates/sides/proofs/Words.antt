-- The marks of a list of positions, word by word. Assumes nothing.
use mathlib.Core.Path.{◌≡◌, refl, sym, ap, ◌∙◌}
use mathlib.Core.Bool.{Bool, true, false}
use mathlib.Core.List.{List, map}
use Prim.Native.Nat.{ℕ, suc, ◌+◌, ◌-◌, ◌*◌, ◌^◌, ◌≤◌, ◌<◌, min}
use native.Mathlib.Omega.{arith}
use borrow.Author.Tests.{leb-true, leb-false}
use lib.Count.{ones, ones-le}
use lib.Dec.{leb}
use lib.IntN.{ℤ, pos}
use lib.ListN.{length, get_or, take, drop, length-take, length-drop, length-map, drop_of_length-le}
use lib.Seq.{drop-cons, take_all}
use Rattle.integers.specs.Lists.{bit, AtMost}
use Rattle.integers.proofs.Counts.{take-map, drop-map}
use Rattle.integers.proofs.Sums.{at_most_take, at_most_drop}
use Rattle.rules.specs.Limits.{users_most, position_most}
use Rattle.rules.specs.declared.Marks.{Marks}
use Rattle.rules.specs.Market.{caused, causers, word, marks}
use Rattle.rules.proofs.Marking.{word_fits, ones_in_lem}
use Rattle.sides.specs.Sides.{side}

-- ---- one word, from its last mark downwards
module _ (f : ℤ → Bool) (ps : List ℤ) where
  pub word_none : (i : ℕ) → length ps ≤ i → 0 ≡ word (map f (drop i ps))
  unfolding word
  word_none i h = rw (drop_of_length-le ps h)

  -- there is room for one mark more
  pub word-less : (i : ℕ) → 0 < i → length ps ≤ 64 → word (map f (drop i ps)) < 2 ^ 63
  word-less i h l = word_fits (map f (drop i ps)) 63 (simp (length-map, length-drop) (omega arith))

  -- the mark of one position more, before those that the word holds
  word-step : (j i : ℕ) → i ≡ suc j → j < length ps → word (map f (drop j ps)) ≡ bit (f (get_or ps j (pos 0))) + 2 * word (map f (drop i ps))
  unfolding word
  word-step j i e h = rw (drop-cons ps j (pos 0), e)

  pub word_next : (i j w m : ℕ) → i ≡ suc j → j < length ps → w ≡ word (map f (drop i ps)) → m ≡ bit (f (get_or ps j (pos 0)))
      → 2 * w + m ≡ word (map f (drop j ps))
  word_next i j w m e h ew em = omega (arith, word-step j i e h, ew, em)

-- ---- the two words of at most 128 positions, of which the first k are in the first word
module _ (ps : List ℤ) (few : length ps ≤ users_most) (small : AtMost position_most ps) (k : ℕ) (is : k ≡ min (length ps) 64) where
  low : take k ps ≡ take 64 ps
  low = go (leb (length ps) 64) refl
    where
      go : (t : Bool) → leb (length ps) 64 ≡ t → take k ps ≡ take 64 ps
      go true t = let h = leb-true (length ps) 64 t in take_all k ps (omega (arith, is)) ∙ sym (take_all 64 ps h)
      go false t = let q : k ≡ 64 = omega (arith, is, leb-false (length ps) 64 t) in ap (λ (n : ℕ). take n ps) q

  high : take (length ps - k) (drop k ps) ≡ take 64 (drop 64 ps)
  high =
      take_all (length ps - k) (drop k ps) (simp length-drop (omega arith)) ∙ go (leb (length ps) 64) refl
      ∙ sym (take_all 64 (drop 64 ps) (simp length-drop (omega arith)))
    where
      go : (t : Bool) → leb (length ps) 64 ≡ t → drop k ps ≡ drop 64 ps
      go true t =
          let h = leb-true (length ps) 64 t in
          let q : length ps ≤ k = omega (arith, is) in
          drop_of_length-le ps q ∙ sym (drop_of_length-le ps h)
      go false t = let q : k ≡ 64 = omega (arith, is, leb-false (length ps) 64 t) in ap (λ (n : ℕ). drop n ps) q

  pub low_asked : (length (take k ps) ≤ 64) × AtMost position_most (take k ps)
  low_asked = (simp length-take (omega arith), at_most_take k ps small)

  pub high_asked : (length (take (length ps - k) (drop k ps)) ≤ 64) × AtMost position_most (take (length ps - k) (drop k ps))
  high_asked = (rw high (simp length-take (omega arith)), at_most_take (length ps - k) (drop k ps) (at_most_drop k ps small))

  module _ (up : Bool) (w1 w2 : ℕ) (e1 : w1 ≡ word (map (caused (side up 0)) (take k ps)))
      (e2 : w2 ≡ word (map (caused (side up 0)) (take (length ps - k) (drop k ps)))) where
    first_is : w1 ≡ word (take 64 (causers (side up 0) ps))
    unfolding causers
    first_is = e1 ∙ ap (λ (xs : List ℤ). word (map (caused (side up 0)) xs)) low ∙ ap word (sym (take-map (caused (side up 0)) ps 64))

    second_is : w2 ≡ word (take 64 (drop 64 (causers (side up 0) ps)))
    unfolding causers
    second_is =
        e2 ∙ ap (λ (xs : List ℤ). word (map (caused (side up 0)) xs)) high
        ∙ ap word (sym (ap (take 64) (drop-map (caused (side up 0)) ps 64) ∙ take-map (caused (side up 0)) (drop 64 ps) 64))

    word-sizes : (w1 < 2 ^ 64) × (w2 < 2 ^ 64)
    word-sizes = (
      rw first_is (word_fits (take 64 (causers (side up 0) ps)) 64 (simp length-take (omega arith))),
      rw second_is (word_fits (take 64 (drop 64 (causers (side up 0) ps))) 64 (simp length-take (omega arith))),
    )

    pub ones_small : (ones w1 ≤ 64) × (ones w2 ≤ 64)
    ones_small = (ones-le 64 w1 word-sizes.0, ones-le 64 w2 word-sizes.1)

    pub marks_are : ◌≡◌ {A = Marks} (record { first = w1; second = w2; number = ones w1 + ones w2 }) (marks (causers (side up 0) ps))
    unfolding marks
    marks_are = rw (← ones_in_lem 64 w1 word-sizes.0, ← ones_in_lem 64 w2 word-sizes.1, first_is, second_is)

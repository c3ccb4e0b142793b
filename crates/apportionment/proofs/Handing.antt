-- The passes of the cut, of the ties and of the spare units. Assumes nothing.
use mathlib.Core.Path.{◌≡◌, refl, sym, ap, ◌∙◌}
use mathlib.Core.Bool.{Bool, true, false, ◌&&◌, ◌||◌, cond, and-false}
use mathlib.Core.List.{List, [], ◌∷◌}
use Prim.Native.Nat.{ℕ, zero, suc, ◌+◌, ◌≤◌, ◌<◌, zero-le}
use native.Mathlib.Omega.{arith}
use native.Mathlib.Nat.{not-suc-le-zero, le_of_suc-le-suc}
use native.Mathlib.Numerals.{add-one}
use lib.Dec.{ltb, eqb}
use lib.IntN.{ℤ, pos, ◌+ℤ◌, +ℤ_idr}
use lib.ListN.{length, get_or, take, drop, length-drop}
use lib.Seq.{ext_get_or, get_or-drop, take_all}
use lib.Signed.{lt_z}
use borrow.Author.Tests.{ltb-true, ltb-false, lt-ltb, le-ltb, eq-eqb, ne_eqb}
use Rattle.integers.specs.Lists.{bit, count, sum, tabulate}
use Rattle.integers.proofs.Counts.{count-step, length-tabulate, get_or-tabulate, tabulate_ext}
use Rattle.integers.proofs.Linear.{lin1, diffs, linear}
use Rattle.largest_remainder.specs.Cuts.{above, same, IsCut, taken}
use Rattle.apportionment.specs.Pass.{raised_by, got, through, visited}
use Rattle.apportionment.specs.Steps.{ties_broken, CutAsks}
use Rattle.largest_remainder.proofs.Cuts.{Order, less, equal, more, order, above_mono, taken-sum}

-- where units are to be cut off, low is below top
pub cut_begins : (rs : List ℕ) (n low top : ℕ) → CutAsks rs n low top → 0 < n → low < top
cut_begins rs n low top c h = go (ltb low top) refl
  where
    go : (b : Bool) → ltb low top ≡ b → low < top
    go true e = ltb-true low top e
    go false e = absurd (omega (arith, c.enough, c.none, above_mono rs top low (ltb-false low top e)))

-- ---- a count by a pass that ends when all are counted
module _ (p : ℕ → Bool) where
  count-take : (xs : List ℕ) (i k : ℕ) → i ≤ k → count p (take i xs) ≤ count p (take k xs)
  unfolding count
  count-take xs zero k h = zero-le
  count-take xs (suc i) zero h = absurd (not-suc-le-zero h)
  count-take [] (suc i) (suc k) h = zero-le
  count-take (x ∷ xs) (suc i) (suc k) h = omega (arith, count-take xs i k (le_of_suc-le-suc h))

  module _ (xs : List ℕ) where
    pub count-next : (i : ℕ) → i < length xs → count p (take i xs) + bit (p (get_or xs i 0)) ≤ count p xs
    count-next i h =
        omega (
          arith,
          count-step p xs i 0 h,
          count-take xs (i + 1) (length xs) (omega arith),
          ap (count p) (take_all (length xs) xs (omega arith)),
        )

    -- as long as one is not counted, there is a place to go to;
    pub count-more : (i : ℕ) → i ≤ length xs → count p (take i xs) < count p xs → i < length xs
    count-more i place h = go (ltb i (length xs)) refl
      where
        go : (b : Bool) → ltb i (length xs) ≡ b → i < length xs
        go true e = ltb-true i (length xs) e
        go false e = absurd (omega (arith, h, ap (count p) (take_all i xs (ltb-false i (length xs) e))))

    -- and when all are counted, none follows
    pub count-done : (i : ℕ) → count p xs ≤ count p (take i xs) → (k : ℕ) → i ≤ k → k < length xs → p (get_or xs k 0) ≡ false
    count-done i h k a l = go (p (get_or xs k 0)) (omega (arith, h, count-take xs i k a, count-next k l))
      where
        go : (b : Bool) → bit b ≤ 0 → b ≡ false
        go true k = absurd (omega arith)
        go false k = refl

-- ---- lists by their places

-- two of one length that are the same from i on
rest_same : {A : Type 0} (z : A) (xs ys : List A) (i : ℕ) → length xs ≡ length ys → ((k : ℕ) → i ≤ k → k < length ys → get_or xs k z ≡ get_or ys k z) → drop i xs ≡ drop i ys
rest_same z xs ys i long h =
    ext_get_or z (drop i xs) (drop i ys) (simp (length-drop, long))
    (λ k b. rw (get_or-drop i xs k z, get_or-drop i ys k z) (h (i + k) (omega arith) (omega (arith, b, length-drop i xs, long))))

count_tabulate : (p : ℕ → Bool) (f : ℕ → ℕ) (n : ℕ) → count p (tabulate f n) ≡ sum (tabulate (λ i. bit (p (f i))) n)
unfolding count sum tabulate
count_tabulate p f zero = refl
count_tabulate p f (suc n) = ap (λ (m : ℕ). bit (p (f 0)) + m) (count_tabulate p (λ i. f (suc i)) n)

-- ---- ties
module _ (rs : List ℕ) (at ties : ℕ) where
  pub broken_length : length (ties_broken rs at ties) ≡ length rs
  unfolding ties_broken
  broken_length = length-tabulate _ (length rs)

  pub broken_at : (i : ℕ) → i < length rs
      → get_or (ties_broken rs at ties) i 0 ≡ get_or rs i 0 + bit (eqb at (get_or rs i 0) && ltb (same (take i rs) at) ties)
  unfolding ties_broken
  broken_at i h = get_or-tabulate _ (length rs) i 0 h

  -- where no tie is left, the remainders that follow stay as they were
  pub broken_rest : (i : ℕ) → ties ≤ same (take i rs) at → drop i (ties_broken rs at ties) ≡ drop i rs
  broken_rest i h =
      rest_same 0 (ties_broken rs at ties) rs i broken_length
      (λ k a l. broken_at k l ∙ omega (arith, tie_last (get_or rs k 0) (same (take k rs) at) (omega (arith, h, count-take (λ r. eqb at r) rs i k a))))
    where
      tie_last : (r m : ℕ) → ties ≤ m → bit (eqb at r && ltb m ties) ≡ 0
      tie_last r m q = rw (le-ltb m ties q, and-false (eqb at r)) refl

  -- those that the cut takes are above `at` then
  pub broken-above : (i : ℕ) → i < length rs → ltb at (get_or (ties_broken rs at ties) i 0) ≡ taken rs at ties i
  broken-above i h = ap (ltb at) (broken_at i h) ∙ go (order at (get_or rs i 0)) (ltb (same (take i rs) at) ties)
    where
      go : Order at (get_or rs i 0) → (t : Bool) → ltb at (get_or rs i 0 + bit (eqb at (get_or rs i 0) && t)) ≡ (ltb at (get_or rs i 0) || eqb at (get_or rs i 0) && t)
      go (less q) t =
          cc (ne_eqb at (get_or rs i 0) (λ e. omega arith), lt-ltb at (get_or rs i 0) q, lt-ltb at (get_or rs i 0 + 0) (omega arith))
      go (equal q) true = cc (eq-eqb at (get_or rs i 0) q, lt-ltb at (get_or rs i 0 + 1) (omega arith), le-ltb at (get_or rs i 0) (omega arith))
      go (equal q) false = cc (eq-eqb at (get_or rs i 0) q, le-ltb at (get_or rs i 0 + 0) (omega arith), le-ltb at (get_or rs i 0) (omega arith))
      go (more q) t =
          cc (ne_eqb at (get_or rs i 0) (λ e. omega arith), le-ltb at (get_or rs i 0) (omega arith), le-ltb at (get_or rs i 0 + 0) (omega arith))

  -- and so many are
  pub broken-count : (n : ℕ) → IsCut rs n at ties → above (ties_broken rs at ties) at ≡ n
  unfolding ties_broken
  broken-count n cut =
      count_tabulate (λ r. ltb at r) (λ i. get_or rs i 0 + bit (eqb at (get_or rs i 0) && ltb (same (take i rs) at) ties)) (length rs)
      ∙ ap sum (tabulate_ext _ (λ i. bit (taken rs at ties i)) (length rs) (λ i l. ap bit (sym (ap (ltb at) (broken_at i l)) ∙ broken-above i l)))
      ∙ taken-sum rs at ties cut.fits
      ∙ cut.adds

-- ---- the list that the pass writes

-- a number that gets a unit is larger, and one that gets none is not
larger : (x : ℤ) (b : Bool) → lt_z x (x +ℤ pos (bit b)) ≡ b
larger x true = lin1 (λ y. lt_z y (y +ℤ pos 1) ≡ true) (λ a b. simp diffs (omega linear)) x
larger x false = lin1 (λ y. lt_z y (y +ℤ pos 0) ≡ false) (λ a b. simp diffs (omega linear)) x

module _ (rs : List ℕ) (at : ℕ) (old : List ℤ) where
  pub raised_length : length (raised_by rs at old) ≡ length old
  unfolding raised_by
  raised_length = length-tabulate _ (length old)

  pub raised_at : (i : ℕ) → i < length old → get_or (raised_by rs at old) i (pos 0) ≡ get_or old i (pos 0) +ℤ pos (bit (ltb at (get_or rs i 0)))
  unfolding raised_by
  raised_at i h = get_or-tabulate _ (length old) i (pos 0) h

  pub raised_got : (i : ℕ) → i < length old → got old (raised_by rs at old) i ≡ ltb at (get_or rs i 0)
  raised_got i h = ap (lt_z (get_or old i (pos 0))) (raised_at i h) ∙ larger (get_or old i (pos 0)) (ltb at (get_or rs i 0))

-- ---- the last place that passes a test
module _ (f : ℕ → Bool) where
  pub through-here : (i : ℕ) → 1 ≤ bit (f i) → through f (i + 1) ≡ i + 1
  unfolding through
  through-here i h = rw add-one (go (f i) h)
    where
      go : (b : Bool) → 1 ≤ bit b → cond b (suc i) (through f i) ≡ suc i
      go true k = refl
      go false k = absurd (omega arith)

  -- places that fail it do not count
  pub through-rest : (i n : ℕ) → i ≤ n → ((k : ℕ) → i ≤ k → k < n → f k ≡ false) → through f n ≡ through f i
  unfolding through
  through-rest i zero h none = let q : 0 ≡ i = omega arith in ap (through f) q
  through-rest i (suc n) h none = go (ltb i (suc n)) refl (λ l. through-rest i n l (λ k a c. none k a (omega arith)))
    where
      go : (b : Bool) → ltb i (suc n) ≡ b → (i ≤ n → through f n ≡ through f i) → through f (suc n) ≡ through f i
      go true e before =
          let l = ltb-true i (suc n) e in
          ap (λ (b : Bool). cond b (suc n) (through f n)) (none n (omega arith) (omega arith)) ∙ before (omega arith)
      go false e before = let q : suc n ≡ i = omega (arith, ltb-false i (suc n) e) in ap (through f) q

through-ext : (f g : ℕ → Bool) (n : ℕ) → ((i : ℕ) → i < n → f i ≡ g i) → through f n ≡ through g n
unfolding through
through-ext f g zero h = refl
through-ext f g (suc n) h = cc (h n (omega arith), through-ext f g n (λ i l. h i (omega arith)))

-- ---- a pass that ends with the last unit
module _ (rs : List ℕ) (at : ℕ) (old : List ℤ) (long : length rs ≡ length old) (i : ℕ) (none : above rs at ≤ above (take i rs) at) where
  -- where none is left, those who follow are as they were,
  pub rest_kept : drop i (raised_by rs at old) ≡ drop i old
  rest_kept =
      rest_same (pos 0) (raised_by rs at old) old i (raised_length rs at old)
      (λ k a l. raised_at rs at old k l ∙ rw (count-done (λ r. ltb at r) rs i none k a (omega arith)) (+ℤ_idr (get_or old k (pos 0))))

  -- and the pass went as far as the last who got one
  pub visited_all : i ≤ length rs → through (λ k. ltb at (get_or rs k 0)) i ≡ i → i ≡ visited old (raised_by rs at old)
  unfolding visited
  visited_all place h =
      sym (
      through-ext (got old (raised_by rs at old)) (λ k. ltb at (get_or rs k 0)) (length old) (raised_got rs at old)
      ∙ ap (through (λ k. ltb at (get_or rs k 0))) (sym long)
      ∙ through-rest (λ k. ltb at (get_or rs k 0)) i (length rs) place (count-done (λ r. ltb at r) rs i none)
      ∙ h
      )

-- Places by the larger remainder first, of equal remainders the lower place first; and the cut that tells the first n. Assumes nothing.
use mathlib.Core.Path.{◌≡◌, refl, ap, ◌∙◌}
use mathlib.Core.Bool.{Bool, true, false, ◌&&◌, ◌||◌}
use mathlib.Core.List.{List, [], ◌∷◌}
use Prim.Native.Nat.{ℕ, zero, suc, ◌+◌, ◌-◌, ◌≤◌, ◌<◌, min, zero-le}
use native.Mathlib.Omega.{arith}
use native.Mathlib.Nat.{not-suc-le-zero, le_of_suc-le-suc}
use lib.Dec.{ltb, eqb}
use lib.ListN.{length, get_or, take}
use borrow.Author.Tests.{ltb-true, ltb-false, lt-ltb, le-ltb, eq-eqb, ne_eqb}
use Rattle.integers.specs.Lists.{bit, count, sum, tabulate}
use Rattle.integers.proofs.Counts.{bit-ltb, bit-eqb, count_split, count_two, tabulate_ext}
use Rattle.largest_remainder.specs.Cuts.{above, same, IsCut, taken}

-- ---- the order of two numbers
pub data Order (a b : ℕ) : Type 0 where
  less : a < b → Order a b
  equal : a ≡ b → Order a b
  more : b < a → Order a b

pub order : (a b : ℕ) → Order a b
order a b = go (ltb a b) (ltb b a) refl refl
  where
    go : (s t : Bool) → ltb a b ≡ s → ltb b a ≡ t → Order a b
    go true t e d = less (ltb-true a b e)
    go false true e d = more (ltb-true b a d)
    go false false e d = equal (omega (arith, ltb-false a b e, ltb-false b a d))

pub ltb_iff : (a b c d : ℕ) → (a < b → c < d) → (c < d → a < b) → ltb a b ≡ ltb c d
ltb_iff a b c d f g = go (ltb a b) (ltb c d) refl refl
  where
    go : (s t : Bool) → ltb a b ≡ s → ltb c d ≡ t → s ≡ t
    go true true e k = refl
    go true false e k = absurd (omega (arith, f (ltb-true a b e), ltb-false c d k))
    go false true e k = absurd (omega (arith, ltb-false a b e, g (ltb-true c d k)))
    go false false e k = refl

-- ---- counts of the remainders

-- those above at + 1, and those that are it, are those above at
pub above-suc : (rs : List ℕ) (at : ℕ) → above rs (suc at) + same rs (suc at) ≡ above rs at
above-suc rs at = count_split _ _ _ (λ r. simp (bit-ltb, bit-eqb) (omega arith)) rs

-- those at hi or above it are above lo, where lo is below hi
above-less : (rs : List ℕ) (lo hi : ℕ) → lo < hi → above rs hi + same rs hi ≤ above rs lo
above-less rs lo hi h = count_two _ _ _ (λ r. simp (bit-ltb, bit-eqb) (omega arith)) rs

-- fewer are above a larger number
pub above_mono : (rs : List ℕ) (lo hi : ℕ) → lo ≤ hi → above rs hi ≤ above rs lo
unfolding count
above_mono [] lo hi h = zero-le
above_mono (r ∷ rs) lo hi h = omega (arith, bit-ltb lo r, bit-ltb hi r, above_mono rs lo hi h)

-- none is above the sum
above-sum : (rs : List ℕ) (at : ℕ) → sum rs ≤ at → above rs at ≡ 0
unfolding count sum
above-sum [] at h = refl
above-sum (r ∷ rs) at h = omega (arith, bit-ltb at r, above-sum rs at (omega arith))

-- the remainder at i is one more like itself than stand before i
same_here : (rs : List ℕ) (i : ℕ) → i < length rs → suc (same (take i rs) (get_or rs i 0)) ≤ same rs (get_or rs i 0)
unfolding count
same_here [] i h = absurd (not-suc-le-zero h)
same_here (r ∷ rs) zero h = omega (arith, bit-eqb r r)
same_here (r ∷ rs) (suc i) h = omega (arith, same_here rs i (le_of_suc-le-suc h))

-- ---- how many remainders come before the one at i
abbrev pub before : List ℕ → ℕ → ℕ
before rs i = above rs (get_or rs i 0) + same (take i rs) (get_or rs i 0)

-- a cut of n takes exactly the places that fewer than n come before
module _ (rs : List ℕ) (n at ties : ℕ) (cut : IsCut rs n at ties) (i : ℕ) (h : i < length rs) where
  pub cut_test : ltb (before rs i) n ≡ taken rs at ties i
  cut_test = go (order at (get_or rs i 0))
    where
      here : at ≡ get_or rs i 0 → above rs at + same (take i rs) at ≡ before rs i
      here q = ap (λ (x : ℕ). above rs x + same (take i rs) x) q

      go : Order at (get_or rs i 0) → ltb (before rs i) n ≡ taken rs at ties i
      go (less q) =
          cc (lt-ltb at (get_or rs i 0) q, lt-ltb (before rs i) n (omega (arith, above-less rs at (get_or rs i 0) q, same_here rs i h, cut.adds)))
      go (equal q) =
          cc (
            le-ltb at (get_or rs i 0) (omega arith),
            eq-eqb at (get_or rs i 0) q,
            ltb_iff (before rs i) n (same (take i rs) at) ties (λ k. omega (arith, here q, cut.adds)) (λ k. omega (arith, here q, cut.adds)),
          )
      go (more q) =
          cc (
            le-ltb at (get_or rs i 0) (omega arith),
            ne_eqb at (get_or rs i 0) (λ e. omega arith),
            le-ltb (before rs i) n (omega (arith, above-less rs (get_or rs i 0) at q, cut.adds, cut.fits)),
          )

-- There is a cut of every n that no fewer remainders than n are above 0; it is looked for from `at` downwards.
cut_exists : (rs : List ℕ) (n : ℕ) → n ≤ above rs 0 → (at : ℕ) → above rs (suc at) ≤ n → (s : ℕ) × ((ties : ℕ) × IsCut rs n (suc s) ties)
cut_exists rs n h zero k = (0, (n - above rs 1, record { adds = omega arith; fits = omega (arith, above-suc rs 0) }))
cut_exists rs n h (suc at) k = go (ltb (above rs (suc at)) n) refl (λ j. cut_exists rs n h at j)
  where
    go : (b : Bool) → ltb (above rs (suc at)) n ≡ b → (above rs (suc at) ≤ n → (s : ℕ) × ((ties : ℕ) × IsCut rs n (suc s) ties))
        → (s : ℕ) × ((ties : ℕ) × IsCut rs n (suc s) ties)
    go true e down = down (omega (arith, ltb-true (above rs (suc at)) n e))
    go false e down = (
      suc at,
      (
        n - above rs (suc (suc at)),
        record { adds = omega arith; fits = omega (arith, above-suc rs (suc at), ltb-false (above rs (suc at)) n e) },
      ),
    )

-- ---- how many a cut takes

-- the test of a place, where `left` of the ties are left
pub unit_bit : (at r left : ℕ) → bit (ltb at r || eqb at r && ltb 0 left) ≡ bit (ltb at r) + min (bit (eqb at r)) left
unit_bit at r left = go (order at r)
  where
    go : Order at r → bit (ltb at r || eqb at r && ltb 0 left) ≡ bit (ltb at r) + min (bit (eqb at r)) left
    go (less q) = rw (lt-ltb at r q, ne_eqb at r (λ e. omega arith)) (omega arith)
    go (equal q) = rw (le-ltb at r (omega arith), eq-eqb at r q) (omega (arith, bit-ltb 0 left))
    go (more q) = rw (le-ltb at r (omega arith), ne_eqb at r (λ e. omega arith)) (omega arith)

pub taken-sum : (rs : List ℕ) (at ties : ℕ) → ties ≤ same rs at → sum (tabulate (λ i. bit (taken rs at ties i)) (length rs)) ≡ above rs at + ties
unfolding count sum tabulate
taken-sum [] at ties h = omega arith
taken-sum (r ∷ rs) at ties h =
    let k : ℕ = bit (eqb at r) in
    let tail = tabulate_ext (λ i. bit (taken (r ∷ rs) at ties (suc i))) (λ i. bit (taken rs at (ties - k) i)) (length rs)
    (λ i _. ap (λ (b : Bool). bit (ltb at (get_or rs i 0) || eqb at (get_or rs i 0) && b))
    (ltb_iff (k + same (take i rs) at) ties (same (take i rs) at) (ties - k) (omega arith) (omega arith))) in
    omega (arith, unit_bit at r ties, ap sum tail, taken-sum rs at (ties - k) (omega arith))

-- the first n are n
pub first_adds : (rs : List ℕ) (n : ℕ) → n ≤ above rs 0 → sum (tabulate (λ i. bit (ltb (before rs i) n)) (length rs)) ≡ n
first_adds rs n h =
    let c = cut_exists rs n h (sum rs) (omega (arith, above-sum rs (suc (sum rs)) (omega arith))) in
    let at = suc c.0 in
    let ties = c.1.0 in
    let e = tabulate_ext (λ i. bit (ltb (before rs i) n)) (λ i. bit (taken rs at ties i)) (length rs) (λ i l. ap bit (cut_test rs n at ties c.1.1 i l)) in
    ap sum e ∙ taken-sum rs at ties c.1.1.fits ∙ c.1.1.adds

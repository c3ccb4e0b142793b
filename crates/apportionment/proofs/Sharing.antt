-- The pass that turns the sizes into whole units and remainders. Assumes nothing.
use mathlib.Core.Path.{◌≡◌, refl, sym, ap, ◌∙◌}
use mathlib.Core.List.{List, [], ◌∷◌, map}
use Prim.Native.Nat.{ℕ, ◌+◌, ◌-◌, ◌*◌, ◌/◌, ◌%◌, ◌≤◌, ◌<◌, min, max, zero-le}
use native.Mathlib.Omega.{arith}
use native.Mathlib.Nat.{mul-le-mul, mul-zero, zero-mod, zero-div}
use lib.Dec.{ltb}
use lib.IntN.{ℤ, pos}
use lib.ListN.{length, get_or, take, set, length-map}
use lib.Seq.{take_all}
use Rattle.std.specs.List as Prelude
use Rattle.std.proofs.lemmas.List.Sums.{sum_by-cons}
use Rattle.integers.specs.Lists.{count, sum}
use Rattle.integers.proofs.Counts.{bit-ltb, count-step, sum_step, sum-take-le, sum-le, get_or-map_at}
use Rattle.integers.proofs.Passes.{Written, written_none, written_elem, written_next, written_all}
use Rattle.largest_remainder.specs.Rule.{whole, fraction}
use Rattle.largest_remainder.specs.Cuts.{above}
use Rattle.apportionment.specs.Steps.{Input, Shared}
use Rattle.largest_remainder.proofs.Cuts.{above_mono}
use Rattle.largest_remainder.proofs.Parts.{wholes_le, fraction-less}
use Rattle.rules.specs.Limits.{position_most, market_most}

-- the sum of the library is that of the rules
pub sum_same : (xs : List ℕ) → Prelude.sum xs ≡ sum xs
unfolding sum
sum_same [] = refl
sum_same (x ∷ xs) = sum_by-cons (λ n. n) x xs ∙ ap (λ n. x + n) (sum_same xs)

-- the sum of the sizes is within its bound
pub sum_fits : (sizes : List ℕ) (total : ℕ) → Input sizes total → sum sizes ≤ market_most
sum_fits sizes total n = omega (arith, sum-le position_most sizes n.small, n.users)

pub no_share : (total size s : ℕ) → size ≡ 0 → (0 ≡ total * size / s) × (0 ≡ total * size % s)
no_share total size s e = rw (e, mul-zero) (sym (zero-div s), sym (zero-mod s))

-- the pass has come to i
pub record Sharing (sizes : List ℕ) (total : ℕ) (old : List ℤ) (rs : List ℕ) (out : List ℤ) (given low top i : ℕ) : Type 0 where
  pub place : i ≤ length sizes
  pub fractions : Written (map (fraction sizes total) sizes) sizes rs i
  pub wholes : Written (map pos (map (whole sizes total) sizes)) old out i
  pub sum : given ≡ sum (take i (map (whole sizes total) sizes))
  pub enough : above (take i (map (fraction sizes total) sizes)) 0 ≤ above (take i (map (fraction sizes total) sizes)) low
  pub none : above (take i (map (fraction sizes total) sizes)) top ≡ 0
  pub small : top ≤ market_most

-- the lists that the pass writes are as long as the sizes
module _ (sizes : List ℕ) (total : ℕ) where
  fractions_long : length (map (fraction sizes total) sizes) ≡ length sizes
  fractions_long = length-map sizes (fraction sizes total)

  wholes_long : length (map (whole sizes total) sizes) ≡ length sizes
  wholes_long = length-map sizes (whole sizes total)

  signed_long : (old : List ℤ) → length old ≡ length sizes → length (map pos (map (whole sizes total) sizes)) ≡ length old
  signed_long old long = length-map (map (whole sizes total) sizes) pos ∙ wholes_long ∙ sym long

pub sharing_none : (sizes : List ℕ) (total : ℕ) (old : List ℤ) (low : ℕ) → Sharing sizes total old sizes old 0 low 0 0
unfolding sum count
sharing_none sizes total old low = record {
  place = zero-le;
  fractions = written_none _ sizes;
  wholes = written_none _ old;
  sum = refl;
  enough = zero-le;
  none = refl;
  small = zero-le;
}

module _ {sizes : List ℕ} {total : ℕ} {old : List ℤ} {rs : List ℕ} {out : List ℤ} {given low top i : ℕ}
    (n : Input sizes total) (long : length old ≡ length sizes) (s : Sharing sizes total old rs out given low top i) where
  module _ (l : i < length sizes) where
    here : get_or rs i 0 ≡ get_or sizes i 0
    here = written_elem (map (fraction sizes total) sizes) sizes rs i s.fractions (fractions_long sizes total) 0 l

    -- what the division at i asks and gives
    module _ (divisor : ℕ) (e : divisor ≡ sum sizes) where
      pub sharing_asks : (0 < divisor) × (total * get_or rs i 0 ≤ market_most * position_most)
      sharing_asks = (
        omega (arith, n.some),
        rw here (mul-le-mul {n₂ = market_most} {m₂ = position_most} (omega (arith, n.within, sum_fits sizes total n)) (n.small i)),
      )

      pub sharing_whole : (w : ℕ) → w ≡ total * get_or rs i 0 / divisor → w ≡ whole sizes total (get_or sizes i 0)
      unfolding whole
      sharing_whole w q = q ∙ rw (here, e) refl

      pub sharing_fraction : (f : ℕ) → f ≡ total * get_or rs i 0 % divisor → f ≡ fraction sizes total (get_or sizes i 0)
      unfolding fraction
      sharing_fraction f q = q ∙ rw (here, e) refl

    pub sharing_given : (w : ℕ) → w ≡ whole sizes total (get_or sizes i 0) → given + w ≤ market_most
    sharing_given w e =
        let ws = map (whole sizes total) sizes in
        omega (
          arith,
          s.sum,
          e,
          get_or-map_at (whole sizes total) sizes i 0 0 l,
          sum_step ws i (omega (arith, wholes_long sizes total)),
          sum-take-le ws (i + 1),
          wholes_le sizes total n.some,
          n.within,
          sum_fits sizes total n,
        )

    pub sharing_next : (w f : ℕ) (v : ℤ) → w ≡ whole sizes total (get_or sizes i 0) → f ≡ fraction sizes total (get_or sizes i 0) → v ≡ pos w
        → (low' : ℕ) → low' ≤ low → min 1 f ≤ f - low' → Sharing sizes total old (set rs i f) (set out i v) (given + w) low' (max top f) (i + 1)
    sharing_next w f v ew ef ev low' b p =
        let ws = map (whole sizes total) sizes in
        let fs = map (fraction sizes total) sizes in
        let gw = get_or-map_at (whole sizes total) sizes i 0 0 l in
        let gf = get_or-map_at (fraction sizes total) sizes i 0 0 l in
        let lw : i < length ws = omega (arith, wholes_long sizes total) in
        let lf : i < length fs = omega (arith, fractions_long sizes total) in
        record {
          place = omega arith;
          fractions = written_next fs sizes rs i s.fractions (fractions_long sizes total) 0 f l (ef ∙ sym gf);
          wholes = written_next (map pos ws) old out i s.wholes (signed_long sizes total old long) (pos 0) v (omega arith) (ev ∙ ap pos (ew ∙ sym gw) ∙ sym (get_or-map_at pos ws i (pos 0) 0 lw));
          sum = omega (arith, s.sum, sum_step ws i lw, gw, ew);
          enough = omega (
            arith,
            s.enough,
            gf,
            ef,
            above_mono (take i fs) low' low b,
            count-step (λ y. ltb 0 y) fs i 0 lf,
            count-step (λ y. ltb low' y) fs i 0 lf,
            bit-ltb 0 (get_or fs i 0),
            bit-ltb low' (get_or fs i 0),
          );
          none = omega (
            arith,
            s.none,
            gf,
            ef,
            above_mono (take i fs) top (max top f) (omega arith),
            count-step (λ y. ltb (max top f) y) fs i 0 lf,
            bit-ltb (max top f) (get_or fs i 0),
          );
          small = omega (arith, s.small, ef, fraction-less sizes total n.some (get_or sizes i 0), sum_fits sizes total n);
        }

  pub sharing_all : length sizes ≤ i → Shared sizes total rs out given low top
  sharing_all l =
      let ws = map (whole sizes total) sizes in
      let fs = map (fraction sizes total) sizes in
      let e = written_all fs sizes rs i s.fractions (fractions_long sizes total) l in
      let t = take_all i fs (omega (arith, fractions_long sizes total)) in
      record {
        fractions = e;
        wholes = written_all (map pos ws) old out i s.wholes (signed_long sizes total old long) (omega arith);
        sum = s.sum ∙ ap sum (take_all i ws (omega (arith, wholes_long sizes total)));
        enough = rw e (rw t at s.enough);
        none = rw e (rw t at s.none);
        small = s.small;
      }

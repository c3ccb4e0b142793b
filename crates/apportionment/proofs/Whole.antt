-- What `apportion` has to show between its calls, over plain lists and numbers. Assumes nothing.
use mathlib.Core.Path.{◌≡◌, refl, sym, ap, ◌∙◌}
use mathlib.Core.Bool.{Bool, true, false}
use mathlib.Core.List.{List, map}
use Prim.Native.Nat.{ℕ, ◌-◌, ◌≤◌, ◌<◌}
use native.Mathlib.Omega.{arith}
use lib.Dec.{ltb}
use lib.IntN.{ℤ, pos}
use lib.ListN
use lib.ListN.{length, get_or, length-map, get_or-eq_default}
use lib.Seq.{ext_get_or}
use borrow.Author.Tests.{ltb-true, ltb-false}
use Rattle.integers.proofs.Counts.{get_or-map_at, get_or-le-sum}
use Rattle.largest_remainder.specs.Rule.{whole, fraction, spare, settled}
use Rattle.largest_remainder.specs.Cuts.{above, IsCut}
use Rattle.apportionment.specs.Pass.{raised_by}
use Rattle.apportionment.specs.Steps.{Input, ties_broken, Bounded, CutAsks, HandAsks, Shared}
use Rattle.largest_remainder.proofs.Parts.{wholes_le, fraction-less, spare-le, settled_cut, settled-length, settled-get_or}
use Rattle.rules.specs.Limits.{market_most}
use Rattle.apportionment.proofs.Sharing.{sum_fits}
use Rattle.apportionment.proofs.Handing.{broken_length, broken-above, broken-count, raised_length, raised_at}

module _ {sizes : List ℕ} {total : ℕ} {rs : List ℕ} {out : List ℤ} {given low top : ℕ} (n : Input sizes total)
    (k : Shared sizes total rs out given low top) where
  pub given-le : given ≤ total
  given-le = omega (arith, k.sum, wholes_le sizes total n.some)

  spare_is : total - given ≡ spare sizes total
  unfolding spare
  spare_is = ap (λ (y : ℕ). total - y) k.sum

  bounded : Bounded rs
  bounded = record { at = λ i. go i (ltb i (length rs)) refl }
    where
      go : (i : ℕ) (b : Bool) → ltb i (length rs) ≡ b → get_or rs i 0 ≤ market_most
      go i true e =
          let l : i < length sizes = omega (arith, ltb-true i (length rs) e, ap length k.fractions, length-map sizes (fraction sizes total)) in
          rw (k.fractions, get_or-map_at (fraction sizes total) sizes i 0 0 l)
          (omega (arith, fraction-less sizes total n.some (get_or sizes i 0), sum_fits sizes total n))
      go i false e = omega (arith, get_or-eq_default rs 0 (ltb-false i (length rs) e))

  pub cut_asked : CutAsks rs (total - given) low top
  cut_asked = record {
    bounded = bounded;
    enough =
        let e : spare sizes total ≤ above rs 0 = rw k.fractions (spare-le sizes total n.some) in
        omega (arith, spare_is, k.enough);
    none = k.none;
    small = k.small;
  }

  pub rests_length : length rs ≡ length sizes
  rests_length = ap length k.fractions ∙ length-map sizes (fraction sizes total)

  out_length : length out ≡ length sizes
  out_length = ap length k.wholes ∙ length-map (map (whole sizes total) sizes) pos ∙ length-map sizes (whole sizes total)

  out_at : (i : ℕ) → get_or out i (pos 0) ≡ pos (get_or (map (whole sizes total) sizes) i 0)
  out_at i = ap (λ (q : List ℤ). get_or q i (pos 0)) k.wholes ∙ ListN.get_or-map pos (map (whole sizes total) sizes) i 0

  pub hand_asked : (at ties : ℕ) → IsCut rs (total - given) at ties → HandAsks (ties_broken rs at ties) at (total - given) out
  hand_asked at ties c = record {
    long = broken_length rs at ties ∙ rests_length ∙ sym out_length;
    small = λ i. rw (out_at i) (omega (arith, get_or-le-sum (map (whole sizes total) sizes) i, wholes_le sizes total n.some, n.within, sum_fits sizes total n));
    units = broken-count rs at ties (total - given) c;
  }

  pub settled_by : (at ties : ℕ) → IsCut rs (total - given) at ties → raised_by (ties_broken rs at ties) at out ≡ map pos (settled sizes total)
  settled_by at ties cut =
      let bs = ties_broken rs at ties in
      let long = raised_length bs at out ∙ out_length in
      let c : IsCut (map (fraction sizes total) sizes) (spare sizes total) at ties = rw (k.fractions, spare_is) at cut in
      ext_get_or (pos 0) (raised_by bs at out) (map pos (settled sizes total))
      (long ∙ sym (length-map (settled sizes total) pos ∙ settled-length sizes total)) (λ i l.
      let j : i < length sizes = omega arith in
      raised_at bs at out i (omega (arith, out_length))
      ∙ rw (
        out_at i,
        get_or-map_at (whole sizes total) sizes i 0 0 j,
        broken-above rs at ties i (omega (arith, rests_length)),
        k.fractions,
      )
      (ap pos (sym (settled-get_or sizes total i j ∙ settled_cut sizes total n.some i j at ties c)))
      ∙ sym (ListN.get_or-map pos (settled sizes total) i 0))

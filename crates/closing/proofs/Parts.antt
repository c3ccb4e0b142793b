-- What the closing of a part and of the table have to show between their calls. Assumes nothing.
use mathlib.Core.Path.{◌≡◌, ap, ◌∙◌}
use mathlib.Core.Bool.{true, false}
use mathlib.Core.List.{List, ◌++◌}
use Prim.Native.Nat.{ℕ}
use native.Mathlib.Omega.{arith}
use lib.IntN.{ℤ, pos}
use lib.ListN.{length, take, drop, replicate, length-take, length-drop}
use Rattle.integers.specs.Ranges.{is_zero}
use Rattle.integers.specs.Lists.{AtMost}
use Rattle.integers.proofs.Passes.{every_take}
use Rattle.rules.specs.declared.ClosingTerms.{ClosingTerms}
use Rattle.rules.specs.declared.Outputs.{Outputs}
use Rattle.rules.specs.Limits.{position_most, position_fit}
use Rattle.rules.specs.Hours.{Same}
use Rattle.rules.specs.Market.{moneys}
use Rattle.rules.proofs.Small.{positions_small}
use Rattle.rules.proofs.Zones.{part_h, part_l, with_h, with_l}
use Rattle.closing.specs.Steps.{Asks, PartLeaves, TableAsks, TableLeaves}

-- the users' quantities, which are the first places of the part
module _ {p : List ℤ} {k : ClosingTerms} {o : Outputs} (a : Asks p k o) where
  pub copy_asked : length o.quantity.now ≡ length (take (length o.quantity.now) p)
  copy_asked = simp length-take (omega (arith, a.room))

  pub quantity_asked : AtMost position_most (take (length o.quantity.now) p)
  quantity_asked = positions_small _ (every_take position_fit (length o.quantity.now) p a.positions)

  pub money_asked : length o.money.now ≡ length (take (length o.quantity.now) p)
  money_asked = a.moneys ∙ copy_asked

  pub part_left : (p' : List ℤ) (o' : Outputs) → Same o o' → o'.quantity.now ≡ take (length o.quantity.now) p
      → o'.money.now ≡ moneys k.excess_price k.shortfall_price (take (length o.quantity.now) p)
      → p' ≡ replicate (length p) (pos 0) → PartLeaves (length o.quantity.now) p p' k o o'
  part_left p' o' same eq em ep = record { lists = record { same = same; quantity = eq; money = em }; places = ep }

-- the zone's part of the table
module _ {tb : List ℤ} {k : ClosingTerms} {o : Outputs} (a : TableAsks tb k o) (n : ℕ) (p' : List ℤ) (o' : Outputs) where
  pub left_h : is_zero k.zone ≡ true → PartLeaves n (take 128 tb) p' k o o' → TableLeaves n tb (p' ++ drop 128 tb) k o o'
  left_h z v =
      let l : length (take 128 tb) ≡ 128 = simp length-take (omega (arith, a.long)) in
      let e : p' ≡ replicate 128 (pos 0) = v.places ∙ ap (λ (j : ℕ). replicate j (pos 0)) l in
      record { lists = rw (part_h k.zone tb z) v.lists; table = rw (with_h k.zone tb _ z) (ap (λ (y : List ℤ). y ++ drop 128 tb) e) }

  pub left_l : is_zero k.zone ≡ false → PartLeaves n (take 128 (drop 128 tb)) p' k o o'
      → TableLeaves n tb (take 128 tb ++ (p' ++ drop 128 (drop 128 tb))) k o o'
  left_l z v =
      let l : length (take 128 (drop 128 tb)) ≡ 128 = simp (length-take, length-drop) (omega (arith, a.long)) in
      let e : p' ≡ replicate 128 (pos 0) = v.places ∙ ap (λ (j : ℕ). replicate j (pos 0)) l in
      record {
        lists = rw (part_l k.zone tb z) v.lists;
        table = rw (with_l k.zone tb _ z) (ap (λ (y : List ℤ). take 128 tb ++ (y ++ drop 128 (drop 128 tb))) e);
      }

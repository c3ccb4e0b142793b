-- The pass that books quantities, money and positions after. Assumes nothing.
use mathlib.Core.Path.{◌≡◌, sym, ◌∙◌}
use mathlib.Core.Bool.{Bool}
use mathlib.Core.List.{List, map, zip_with}
use Prim.Native.Nat.{ℕ, ◌+◌, ◌≤◌, ◌<◌, zero-le}
use native.Mathlib.Omega.{arith}
use lib.IntN.{ℤ, pos, ◌-ℤ◌, ◌*ℤ◌}
use lib.ListN.{length, get_or, set, length-map}
use Rattle.integers.proofs.Counts.{get_or-map_at}
use Rattle.integers.proofs.Sums.{length-zip, get_or-zip}
use Rattle.integers.proofs.Passes.{Written, written_none, written_elem, written_next, written_all}
use Rattle.sides.specs.Sides.{turn, Booked}

-- the pass has come to i, over the positions ps, the settled sizes ns and whatever ms held
pub record Booking (up : Bool) (price : ℤ) (ps ns ms p q m : List ℤ) (i : ℕ) : Type 0 where
  pub place : i ≤ length ps
  pub positions : Written (zip_with (λ x n. x -ℤ turn up n) ps ns) ps p i
  pub quantity : Written (map (turn up) ns) ns q i
  pub money : Written (map (λ n. turn up n *ℤ price) ns) ms m i

pub booking_none : (up : Bool) (price : ℤ) (ps ns ms : List ℤ) → Booking up price ps ns ms ps ns ms 0
booking_none up price ps ns ms = record { place = zero-le; positions = written_none _ ps; quantity = written_none _ ns; money = written_none _ ms }

module _ {up : Bool} {price : ℤ} {ps ns ms p q m : List ℤ} {i : ℕ} (b : Booking up price ps ns ms p q m i)
    (ln : length ns ≡ length ps) (lm : length ms ≡ length ps) where
  positions_long : length (zip_with (λ x n. x -ℤ turn up n) ps ns) ≡ length ps
  positions_long = length-zip (λ x n. x -ℤ turn up n) ps ns (sym ln)

  quantity_long : length (map (turn up) ns) ≡ length ns
  quantity_long = length-map ns (turn up)

  money_long : length (map (λ n. turn up n *ℤ price) ns) ≡ length ms
  money_long = length-map ns (λ n. turn up n *ℤ price) ∙ ln ∙ sym lm

  module _ (h : i < length ps) where
    -- what the turn reads is as it was
    pub position_still : get_or p i (pos 0) ≡ get_or ps i (pos 0)
    position_still = written_elem _ ps p i b.positions positions_long (pos 0) h

    pub size_still : get_or q i (pos 0) ≡ get_or ns i (pos 0)
    size_still = written_elem _ ns q i b.quantity quantity_long (pos 0) (omega arith)

    pub booking_next : (x y z : ℤ) → x ≡ get_or ps i (pos 0) -ℤ turn up (get_or ns i (pos 0)) → y ≡ turn up (get_or ns i (pos 0))
        → z ≡ turn up (get_or ns i (pos 0)) *ℤ price
        → Booking up price ps ns ms (set p i x) (set q i y) (set m i z) (i + 1)
    booking_next x y z ex ey ez =
        let hn : i < length ns = omega arith in
        record {
          place = omega arith;
          positions = written_next _ ps p i b.positions positions_long (pos 0) x h (ex ∙ sym (get_or-zip (λ x n. x -ℤ turn up n) ps ns i (pos 0) (pos 0) (pos 0) h hn));
          quantity = written_next _ ns q i b.quantity quantity_long (pos 0) y hn (ey ∙ sym (get_or-map_at (turn up) ns i (pos 0) (pos 0) hn));
          money = written_next _ ms m i b.money money_long (pos 0) z (omega arith) (ez ∙ sym (get_or-map_at (λ n. turn up n *ℤ price) ns i (pos 0) (pos 0) hn));
        }

  pub booking_all : length ps ≤ i → Booked up price ps p ns q m
  booking_all h = record {
    positions = written_all _ ps p i b.positions positions_long h;
    quantity = written_all _ ns q i b.quantity quantity_long (omega arith);
    money = written_all _ ms m i b.money money_long (omega arith);
  }

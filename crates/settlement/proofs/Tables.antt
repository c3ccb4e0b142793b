-- What the zone's and the table's settlement have to show: the users' places are the first of the part, and the part is the zone's. Assumes nothing.
use mathlib.Core.Path.{◌≡◌, ap, ◌∙◌}
use mathlib.Core.Bool.{true, false}
use mathlib.Core.List.{List, [], ◌++◌, append-nil}
use Prim.Native.Nat.{ℕ, ◌≤◌}
use native.Mathlib.Omega.{arith}
use lib.IntN.{ℤ, pos, ◌+ℤ◌}
use lib.ListN.{length, take, drop, length-take, drop_of_length-le}
use lib.Seq.{get_or-take, length-take-le}
use Rattle.integers.specs.Ranges.{is_zero}
use Rattle.integers.proofs.Counts.{tabulate_ext}
use Rattle.integers.proofs.Passes.{every_take}
use Rattle.rules.specs.declared.Amounts.{Amounts}
use Rattle.rules.specs.declared.HourTerms.{HourTerms}
use Rattle.rules.specs.declared.Outcome.{Outcome}
use Rattle.rules.specs.declared.Outputs.{Outputs}
use Rattle.rules.specs.Limits.{position_fit}
use Rattle.rules.specs.Days.{onto}
use Rattle.rules.specs.Market.{imbalance}
use Rattle.rules.proofs.Settling.{length-after}
use Rattle.rules.proofs.Zones.{part_h, part_l, with_h, with_l}
use Rattle.positions.specs.Before.{amounts_at, before_at, befores, Lent}
use Rattle.positions.proofs.Before.{length-befores}
use Rattle.settlement.specs.Steps.{Asks, afters, UsersLeave, ZoneLeaves, TableLeaves}

-- ---- the users' places of a part
module _ (p : List ℤ) (a : Amounts) where
  befores-take : befores (take (length a.entries.now) p) a ≡ befores p a
  unfolding befores before_at
  befores-take = tabulate_ext _ _ (length a.entries.now) (λ u h. ap (λ (y : ℤ). y +ℤ amounts_at a u) (get_or-take (length a.entries.now) p u (pos 0) h))

  module _ (k : HourTerms) where
    pub users_asked : (m : ℤ) (o : Outputs) (s : List ℕ) → Asks p a k m o s
        → (length (take (length a.entries.now) p) ≡ length a.entries.now) × Asks (take (length a.entries.now) p) a k m o s
    users_asked m o s g = (long, asks)
      where
        b : Lent p a
        b = g.amounts.lent

        long : length (take (length a.entries.now) p) ≡ length a.entries.now
        long = simp length-take (omega (arith, b.room))

        asks : Asks (take (length a.entries.now) p) a k m o s
        asks = record {
          amounts = record {
            lent = record {
              lists = b.lists;
              few = b.few;
              room = omega (arith, long);
              positions = every_take position_fit (length a.entries.now) p b.positions;
            };
            fit = g.amounts.fit;
          };
          positions = rw befores-take g.positions;
          market = rw befores-take g.market;
          terms = g.terms;
          quantities = g.quantities;
          moneys = g.moneys;
          scratches = g.scratches;
        }

    length-afters : length (afters k (befores p a)) ≡ length a.entries.now
    length-afters = length-after (imbalance k.upper k.lower (befores p a)) (befores p a) ∙ length-befores p a

    pub zone-left : (p' : List ℤ) (o o' : Outputs) (s s' : List ℕ) (r : Outcome) → UsersLeave (take (length a.entries.now) p) p' a k o o' s s' r
        → ZoneLeaves p (p' ++ drop (length a.entries.now) p) a k o o' s s' r
    unfolding onto
    zone-left p' o o' s s' r v = record {
      lists = rw befores-take at v.lists;
      places = rw length-afters (ap (λ (y : List ℤ). y ++ drop (length a.entries.now) p) (rw befores-take at v.places));
    }

    -- of places that are the users' alone nothing is left beyond theirs
    pub copy_left : length a.entries.now ≤ length p → (p' : List ℤ) (o o' : Outputs) (s s' : List ℕ) (r : Outcome)
        → ZoneLeaves (take (length a.entries.now) p) p' a k o o' s s' r → UsersLeave p p' a k o o' s s' r
    unfolding onto
    copy_left room p' o o' s s' r v =
        let n = length a.entries.now in
        let ps = befores p a in
        let none : drop (length (afters k ps)) (take n p) ≡ [] = drop_of_length-le (take n p) (omega (arith, length-afters, length-take-le n p room)) in
        record {
          lists = rw befores-take at v.lists;
          places = (rw befores-take at v.places) ∙ ap (λ (y : List ℤ). afters k ps ++ y) none ∙ append-nil (afters k ps);
        }

-- ---- the zone's part of the table
module _ (tb : List ℤ) (a : Amounts) (k : HourTerms) (p' : List ℤ) (o o' : Outputs) (s s' : List ℕ) (r : Outcome) where
  pub left_h : is_zero k.zone ≡ true → ZoneLeaves (take 128 tb) p' a k o o' s s' r
      → TableLeaves tb (p' ++ drop 128 tb) a k o o' s s' r
  left_h z v = record {
    lists = rw (part_h k.zone tb z) v.lists;
    table = rw (with_h k.zone tb _ z, part_h k.zone tb z) (ap (λ (l : List ℤ). l ++ drop 128 tb) v.places);
  }

  pub left_l : is_zero k.zone ≡ false → ZoneLeaves (take 128 (drop 128 tb)) p' a k o o' s s' r
      → TableLeaves tb (take 128 tb ++ (p' ++ drop 128 (drop 128 tb))) a k o o' s s' r
  left_l z v =
      record {
        lists = rw (part_l k.zone tb z) v.lists;
        table = rw (with_l k.zone tb _ z, part_l k.zone tb z) (ap (λ (l : List ℤ). take 128 tb ++ (l ++ drop 128 (drop 128 tb))) v.places);
      }

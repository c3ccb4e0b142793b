-- What the users' settlement has to show between its calls: the market is in an excess, in a shortfall or within its thresholds. Assumes nothing.
use mathlib.Core.Path.{◌≡◌, refl, sym, ap, ap₂, ◌∙◌, subst}
use mathlib.Core.Bool.{Bool, true, false}
use mathlib.Core.List.{List, [], ◌∷◌, map, zip_with}
use Prim.Native.Nat.{ℕ, zero, suc, ◌*◌, ◌≤◌}
use native.Mathlib.Omega.{arith}
use lib.IntN.{ℤ, pos, nat_abs, zero-*ℤ, +ℤ_idr, ◌-ℤ◌}
use lib.ListN.{length, replicate, length-map}
use Rattle.integers.specs.Lists.{sum_ℤ, AtMost}
use Rattle.integers.proofs.Sizes.{size-sub}
use Rattle.integers.proofs.Sums.{sum_bound}
use Rattle.rules.specs.Limits.{users_most, position_most, market_most}
use Rattle.rules.specs.Hours.{Same}
use Rattle.rules.specs.declared.Amounts.{Amounts}
use Rattle.rules.specs.declared.HourTerms.{HourTerms}
use Rattle.rules.specs.declared.Marks.{Marks}
use Rattle.rules.specs.declared.Outputs.{Outputs}
use Rattle.rules.specs.declared.Outcome.{Outcome}
use Rattle.rules.specs.declared.Outcome.TheVariants.{Within}
use Rattle.rules.specs.Market.{within, imbalance, settled_sizes, signed, quantities, after, money_of, moneys, outcome}
use Rattle.rules.proofs.Settling.{View, is_excess, is_shortfall, view, length-sizes, sizes_small, length-quantities, Shareable, share_excess, share_shortfall}
use Rattle.positions.specs.Before.{befores}
use Rattle.positions.proofs.Before.{length-befores}
use Rattle.rules.proofs.Accepted.{thresholds_sound}
use Rattle.rules.proofs.Small.{positions_small, terms_small}
use Rattle.sides.specs.Sides.{side, SideAsks, SideLeaves}
use Rattle.sides.proofs.OneSide.{total-side}
use Rattle.settlement.specs.Steps.{Asks, UsersLeave}

-- ---- an hour within its thresholds settles nothing
nothing : (ns : List ℕ) → map (signed within) ns ≡ replicate (length ns) (pos 0)
unfolding signed
nothing [] = refl
nothing (n ∷ ns) = ap (λ (l : List ℤ). pos 0 ∷ l) (nothing ns)

no_quantities : (ps : List ℤ) → quantities within ps ≡ replicate (length ps) (pos 0)
unfolding quantities
no_quantities ps =
    nothing (settled_sizes within ps)
    ∙ ap (λ (n : ℕ). replicate n (pos 0)) (sym (length-map (settled_sizes within ps) (signed within)) ∙ length-quantities within ps)

no_moneys : (a b : ℤ) (n : ℕ) → moneys a b (replicate n (pos 0)) ≡ replicate n (pos 0)
unfolding moneys money_of
no_moneys a b zero = refl
no_moneys a b (suc n) = ap₂ (λ (x : ℤ) (l : List ℤ). x ∷ l) (zero-*ℤ b) (no_moneys a b n)

no_change : (ps : List ℤ) → zip_with ◌-ℤ◌ ps (replicate (length ps) (pos 0)) ≡ ps
unfolding zip_with
no_change [] = refl
no_change (p ∷ ps) = ap₂ (λ (x : ℤ) (l : List ℤ). x ∷ l) (+ℤ_idr p) (no_change ps)

-- ---- by the positions before, z
module _ {p : List ℤ} {a : Amounts} {k : HourTerms} {m : ℤ} {o : Outputs} {s : List ℕ} (g : Asks p a k m o s) (z : List ℤ) (ez : z ≡ befores p a) where
  z_long : length z ≡ length a.entries.now
  z_long = ap length ez ∙ length-befores p a

  z_small : AtMost position_most z
  z_small = rw ez (positions_small (befores p a) g.positions)

  z_few : length z ≤ users_most
  z_few = omega (arith, z_long, g.amounts.lent.few)

  pub market_is : m ≡ sum_ℤ z
  market_is = g.market ∙ sym (ap sum_ℤ ez)

  pub market_small : nat_abs (sum_ℤ z) ≤ market_most
  market_small = omega (arith, sum_bound z z_small, z_few)

  -- a total is no larger than the market and its threshold together, and can be shared
  record Total (up : Bool) (n : ℕ) : Type 0 where
    size : n ≤ 2 * market_most
    shareable : Shareable (side up n) z

  of_view : (up : Bool) (n : ℕ) → View k.upper k.lower (sum_ℤ z) (side up n) → Total up n
  unfolding side
  of_view true n (is_excess over is) =
      let h = thresholds_sound k g.terms in
      record {
        size = omega (arith, ap nat_abs is, size-sub (sum_ℤ z) k.upper, (terms_small k g.terms).upper, market_small);
        shareable = share_excess k.upper k.lower z h.0 h.1 n over is;
      }
  of_view false n (is_shortfall under is) =
      let h = thresholds_sound k g.terms in
      record {
        size = omega (arith, ap nat_abs is, size-sub k.lower (sum_ℤ z), (terms_small k g.terms).lower, market_small);
        shareable = share_shortfall k.upper k.lower z h.0 h.1 n under is;
      }

  -- an excess or a shortfall
  module _ (up : Bool) (n : ℕ) (is : side up n ≡ imbalance k.upper k.lower z) where
    of_side : Total up n
    unfolding imbalance
    of_side = of_view up n (subst (View k.upper k.lower (sum_ℤ z)) (sym is) (view k.upper k.lower (sum_ℤ z)))

    pub side-fits : n ≤ 2 * market_most
    side-fits = of_side.size

    pub side_asked : SideAsks up n z k o s
    side_asked = record {
      input = record {
        users = omega (arith, length-sizes (side up n) z, z_few);
        small = sizes_small (side up n) z z_small;
        some = of_side.shareable.some;
        within = omega (arith, of_side.shareable.enough, total-side up n);
      };
      positions = rw ez g.positions;
      terms = g.terms;
      quantities = g.quantities ∙ sym z_long;
      moneys = g.moneys ∙ sym z_long;
      scratches = g.scratches ∙ sym z_long;
    }

    pub side_left : (z' : List ℤ) (o' : Outputs) (s' : List ℕ) (r : Marks) → SideLeaves up n z z' k o o' s s' r
        → (x : Outcome) → x ≡ outcome (side up n) z → UsersLeave p z' a k o o' s s' x
    side_left z' o' s' r v x ex = record {
      lists = record {
        same = v.same;
        quantity = rw (← ez, ← is) v.quantity;
        money = rw (← ez, ← is) v.money;
        scratch = v.scratch;
        answer = rw (← ez, ← is) ex;
      };
      places = rw (← ez, ← is) v.places;
    }

  -- neither
  pub within_left : within ≡ imbalance k.upper k.lower z → (o' : Outputs) (s' : List ℕ) → Same o o'
      → o'.quantity.now ≡ replicate (length o.quantity.now) (pos 0) → o'.money.now ≡ replicate (length o.money.now) (pos 0)
      → s' ≡ replicate (length s) 0 → UsersLeave p z a k o o' s s' Within
  unfolding outcome after
  within_left is o' s' same eq eμ es =
      let lq : length o.quantity.now ≡ length z = g.quantities ∙ sym z_long in
      let lm : length o.money.now ≡ length z = g.moneys ∙ sym z_long in
      record {
        lists = record {
          same = same;
          quantity = rw (← ez, ← is, no_quantities z) (eq ∙ ap (λ (j : ℕ). replicate j (pos 0)) lq);
          money = rw (← ez, ← is, no_quantities z) (eμ ∙ ap (λ (j : ℕ). replicate j (pos 0)) lm ∙ sym (no_moneys k.excess_price k.shortfall_price (length z)));
          scratch = es;
          answer = rw (← ez, ← is);
        };
        places = rw (← ez, ← is, no_quantities z) (sym (no_change z));
      }

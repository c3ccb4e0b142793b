-- What one side's settlement has to show between its calls, over plain lists. Assumes nothing.
use mathlib.Core.Path.{◌≡◌, refl, sym, ap, ap₂, ◌∙◌}
use mathlib.Core.Bool.{Bool, true, false, cond}
use mathlib.Core.List.{List, [], ◌∷◌, map, zip_with}
use Prim.Native.Nat.{ℕ, zero, suc, ◌≤◌}
use native.Mathlib.Omega.{arith}
use borrow.Author.Tests.{lt-ltb}
use lib.Dec.{ltb}
use lib.IntN.{ℤ, pos, neg_ℤ, nat_abs, ◌-ℤ◌, ◌*ℤ◌, zero-*ℤ}
use lib.ListN.{length, replicate, length-map}
use Rattle.integers.specs.Lists.{AtMost}
use Rattle.largest_remainder.specs.Rule.{settled}
use Rattle.apportionment.specs.Steps.{Input}
use Rattle.largest_remainder.proofs.Guarantees.{no_more_than_size}
use Rattle.rules.specs.Limits.{users_most, position_most, price_most}
use Rattle.rules.specs.Hours.{Same}
use Rattle.rules.specs.declared.HourTerms.{HourTerms}
use Rattle.rules.specs.declared.Marks.{Marks}
use Rattle.rules.specs.declared.Outputs.{Outputs}
use Rattle.rules.specs.Market.{total, caused, size, sizes, settled_sizes, signed, quantities, after, money_of, moneys, marks, causers}
use Rattle.rules.proofs.Settling.{length-sizes, length-quantities}
use Rattle.rules.proofs.Small.{positions_small, terms_small}
use Rattle.sides.specs.Sides.{side, turn, price_on, Booked, SideAsks, SideLeaves}
use Rattle.sides.proofs.Turning.{at_most_pos}

-- who caused, and the sizes, whatever the total
sizes-side : (up : Bool) (n : ℕ) (ps : List ℤ) → map (size (side up 0)) ps ≡ sizes (side up n) ps
unfolding sizes side size caused
sizes-side true n ps = refl
sizes-side false n ps = refl

causers-side : (up : Bool) (n : ℕ) (ps : List ℤ) → causers (side up 0) ps ≡ causers (side up n) ps
unfolding causers side caused
causers-side true n ps = refl
causers-side false n ps = refl

pub total-side : (up : Bool) (n : ℕ) → total (side up n) ≡ n
unfolding total side
total-side true n = refl
total-side false n = refl

-- rule 5's sign is the turn
turn_signed : (up : Bool) (n : ℕ) (ns : List ℕ) → map (turn up) (map pos ns) ≡ map (signed (side up n)) ns
unfolding turn signed side
turn_signed up n [] = refl
turn_signed true n (x ∷ xs) = ap (λ (l : List ℤ). pos x ∷ l) (turn_signed true n xs)
turn_signed false n (x ∷ xs) = ap (λ (l : List ℤ). neg_ℤ (pos x) ∷ l) (turn_signed false n xs)

quantities-side : (up : Bool) (n : ℕ) (ps : List ℤ) → map (turn up) (map pos (settled (sizes (side up n) ps) n)) ≡ quantities (side up n) ps
unfolding quantities settled_sizes
quantities-side up n ps = rw (total-side up n) (turn_signed up n (settled (sizes (side up n) ps) n))

-- rule 6: a side has one price, since a quantity of 0 costs nothing at any
module _ (k : HourTerms) where
  money-side : (up : Bool) (n : ℕ) → turn up (pos n) *ℤ price_on up k ≡ money_of k.excess_price k.shortfall_price (turn up (pos n))
  unfolding turn price_on money_of
  money-side true zero = zero-*ℤ k.excess_price ∙ sym (zero-*ℤ k.shortfall_price)
  money-side true (suc n) = ap (λ (p : ℤ). pos (suc n) *ℤ p) (sym (above n))
    where
      above : (n : ℕ) → cond (ltb 0 (suc n)) k.excess_price k.shortfall_price ≡ k.excess_price
      above n = rw (lt-ltb 0 (suc n) (omega arith))
  money-side false zero = refl
  money-side false (suc n) = refl

  moneys-side : (up : Bool) (ns : List ℕ)
      → map (λ x. turn up x *ℤ price_on up k) (map pos ns) ≡ moneys k.excess_price k.shortfall_price (map (turn up) (map pos ns))
  unfolding moneys
  moneys-side up [] = refl
  moneys-side up (n ∷ ns) = ap₂ (λ (x : ℤ) (l : List ℤ). x ∷ l) (money-side up n) (moneys-side up ns)

-- rule 5: the positions after
after-side : (up : Bool) (ps ns : List ℤ) → zip_with (λ p n. p -ℤ turn up n) ps ns ≡ zip_with ◌-ℤ◌ ps (map (turn up) ns)
unfolding zip_with
after-side up [] ns = refl
after-side up (p ∷ ps) [] = refl
after-side up (p ∷ ps) (n ∷ ns) = ap (λ (l : List ℤ). (p -ℤ turn up n) ∷ l) (after-side up ps ns)

module _ {up : Bool} {n : ℕ} {ps : List ℤ} {k : HourTerms} {o : Outputs} {s : List ℕ} (a : SideAsks up n ps k o s) where
  pub few : length ps ≤ users_most
  few = omega (arith, a.input.users, length-sizes (side up n) ps)

  -- z are the sizes in the scratch
  module _ (z : List ℕ) (ez : z ≡ map (size (side up 0)) ps) where
    sizes_are : z ≡ sizes (side up n) ps
    sizes_are = ez ∙ sizes-side up n ps

    pub apportion_asked : (length o.quantity.now ≡ length z) × Input z n
    apportion_asked = rw sizes_are (a.quantities ∙ sym (length-sizes (side up n) ps), a.input)

    -- w are the settled sizes in the quantity list
    module _ (w : List ℤ) (ew : w ≡ map pos (settled z n)) where
      settled_are : w ≡ map pos (settled (sizes (side up n) ps) n)
      settled_are = ew ∙ ap (λ (l : List ℕ). map pos (settled l n)) sizes_are

      settled-length : length w ≡ length ps
      settled-length =
          sym (length-map w (turn up)) ∙ ap length (ap (map (turn up)) settled_are ∙ quantities-side up n ps)
          ∙ length-quantities (side up n) ps

      settled_small : AtMost position_most w
      settled_small =
          let i = a.input in
          rw settled_are (at_most_pos (settled (sizes (side up n) ps) n) (λ j. omega (arith, no_more_than_size (sizes (side up n) ps) n i.some i.within j, i.small j)))

      pub book_asked : (length w ≡ length ps) × (length o.money.now ≡ length ps) × AtMost position_most ps × AtMost position_most w
      book_asked = (settled-length, a.moneys, positions_small ps a.positions, settled_small)

      pub price_small : nat_abs (price_on up k) ≤ price_most
      unfolding price_on
      price_small = go up
        where
          go : (b : Bool) → nat_abs (cond b k.excess_price k.shortfall_price) ≤ price_most
          go true = (terms_small k a.terms).prices.excess
          go false = (terms_small k a.terms).prices.shortfall

      pub side_left : (ps' : List ℤ) (o' : Outputs) (s' : List ℕ) (r : Marks) → Same o o'
          → Booked up (price_on up k) ps ps' w o'.quantity.now o'.money.now
          → s' ≡ replicate (length z) 0 → length z ≡ length s → r ≡ marks (causers (side up 0) ps) → SideLeaves up n ps ps' k o o' s s' r
      unfolding after
      side_left ps' o' s' r same b es lz er =
          let e : map (turn up) w ≡ quantities (side up n) ps = ap (map (turn up)) settled_are ∙ quantities-side up n ps in
          record {
            same = same;
            places = b.positions ∙ after-side up ps w ∙ ap (zip_with ◌-ℤ◌ ps) e;
            quantity = b.quantity ∙ e;
            money =
                b.money ∙ ap (map (λ x. turn up x *ℤ price_on up k)) settled_are ∙ moneys-side k up (settled (sizes (side up n) ps) n)
                ∙ ap (moneys k.excess_price k.shortfall_price) (quantities-side up n ps);
            scratch = es ∙ ap (λ (j : ℕ). replicate j 0) lz;
            marked = er ∙ ap marks (causers-side up n ps);
          }

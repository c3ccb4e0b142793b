-- What the tests of 18 and 19 say of a content. Assumes nothing.
use mathlib.Core.Path.{◌≡◌, refl, sym}
use mathlib.Core.Bool.{Bool, true, ◌&&◌}
use mathlib.Core.Logic.{◌↔◌}
use Prim.Native.Nat.{ℕ, ◌^◌, ◌<◌}
use native.Mathlib.Nat.{pow-le-pow_right, lt_of_lt_of_le}
use native.Mathlib.Omega.{arith}
use lib.Dec.{lit<}
use lib.IntN.{ℤ, pos, negsuc, nat_abs}
use lib.ListN.{length}
use lib.Signed.{le_z}
use borrow.Author.Tests.{leb-true, le-leb, eqb-true}
use Rattle.integers.specs.Ranges.{natural}
use Rattle.integers.proofs.Linear.{not_both}
use Rattle.integers.proofs.Tests.{and_true, both_true}
use Rattle.rules.specs.Limits.{users_fit, zone_fit}
use Rattle.rules.proofs.Accepted.{users_range}
use Rattle.ranges.proofs.Lookup.{row_fits}
use Rattle.text.specs.Decimals.{digits}
use Rattle.text.proofs.Decimals.{digits-length, digits-size}
use Rattle.allocation_writer.specs.Steps.{Counted, Fitting, Tested}
use Rattle.allocation_writer.specs.Writer.{Content, of_count, lists_fit, count_fit, nine_digits, hour_fit, amounts_short, numbers_fit}

-- two tests that hold
tests : (a b : Bool) → ((a && b) ≡ true) ↔ ((a ≡ true) × (b ≡ true))
tests a b = (and_true a b, λ p. both_true p.0 p.1)

-- a number that is at least n is a natural number
is_natural : (n : ℕ) (x : ℤ) → le_z (pos n) x ≡ true → pos (natural x) ≡ x
unfolding natural
is_natural n (pos m) e = refl
is_natural n (negsuc m) e = not_both (sym e)

-- ---- 18
pub counted_means : (w : Content) → count_fit w ≡ true → Counted w
unfolding users_fit zone_fit of_count lists_fit count_fit
counted_means w e =
    let t = simp tests at e in
    let n = users_range w.users (both_true t.0.0 t.0.1) in
    record {
      users = is_natural 1 w.users t.0.0;
      some = n.0;
      few = n.1;
      zone = is_natural 0 w.zone t.1.0.0;
      zones = omega (arith, row_fits w.zone (both_true t.1.0.0 t.1.0.1));
      entry = eqb-true _ _ t.1.1.0;
      exit = eqb-true _ _ t.1.1.1.0;
      title = eqb-true _ _ t.1.1.1.1.0;
      pooling = eqb-true _ _ t.1.1.1.1.1;
    }

-- ---- 19

-- nine digits are those of the numbers below 10 ^ 9 in size
pub nine_means : (x : ℤ) → nine_digits x ≡ true → nat_abs x < 10 ^ 9
unfolding nine_digits
nine_means x e =
    let n = nat_abs x in
    lt_of_lt_of_le (digits-size n) (pow-le-pow_right (lit< tt) {i = length (digits n)} {j = 9} (leb-true (length (digits n)) 9 e))

pub means_nine : (x : ℤ) → nat_abs x < 10 ^ 9 → nine_digits x ≡ true
unfolding nine_digits
means_nine x h = le-leb _ _ (digits-length 8 (nat_abs x) h)

pub fitting_means : (w : Content) → numbers_fit w ≡ true → Fitting w
unfolding hour_fit amounts_short numbers_fit
fitting_means w e =
    let t = simp tests at e in
    record {
      hour = is_natural 0 w.hour t.0.1;
      short = nine_means w.hour t.0.0;
      entry = t.1.0;
      exit = t.1.1.0;
      title = t.1.1.1.0;
      pooling = t.1.1.1.1;
    }

-- ---- both
pub tested : {w : Content} → count_fit w ≡ true → numbers_fit w ≡ true → Tested w
tested {w} e f = (counted_means w e, fitting_means w f)

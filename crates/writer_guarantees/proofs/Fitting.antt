-- The tests of 18 and 19 hold exactly where none of their causes exists. Assumes nothing.
use mathlib.Core.Path.{◌≡◌, refl, sym, ap}
use mathlib.Core.Bool.{true}
use mathlib.Core.List.{List, [], ◌∷◌}
use mathlib.Core.Logic.{◌⊎◌, inl, inr}
use Prim.Native.Nat.{ℕ, zero, suc, ◌≤◌}
use native.Mathlib.Omega.{arith}
use lib.IntN.{ℤ, pos, nat_abs}
use borrow.Author.Tests.{le-leb, eq-eqb}
use Rattle.integers.specs.Lists.{every, AtMost}
use Rattle.integers.specs.Ranges.{natural}
use Rattle.integers.proofs.Passes.{every_at_most}
use Rattle.integers.proofs.Sums.{at_most_tail}
use Rattle.integers.proofs.Tests.{both_true}
use Rattle.rules.specs.Limits.{users_most, users_fit, zone_fit}
use Rattle.allocation_row.specs.Rows.{zone_number}
use Rattle.allocation_row.specs.declared.Zone.{Zone}
use Rattle.allocation_row.specs.declared.Zone.TheVariants.{H, L}
use Rattle.allocation_text.specs.Text.{zone_by}
use Rattle.allocation_writer.specs.Writer.{Content, of_count, lists_fit, count_fit, nine_digits, hour_fit, amounts_short, numbers_fit}
use Rattle.allocation_writer.proofs.Tests.{counted_means, fitting_means, nine_means, means_nine}
use Rattle.writer_guarantees.specs.Guarantees.{nine_digits_most, Fit}

-- ---- from the tests

-- a zone's number below 2
pub zone_is : (x : ℤ) (n : ℕ) → pos n ≡ x → n ≤ 1 → (x ≡ pos 0) ⊎ (x ≡ pos 1)
zone_is x zero e h = inl (sym e)
zone_is x (suc zero) e h = inr (sym e)
zone_is x (suc (suc n)) e h = absurd (omega arith)

-- a zone by its number
pub zone_again : (z : Zone) → zone_by (zone_number z) ≡ z
unfolding zone_by
zone_again H = refl
zone_again L = refl

-- and a number by its zone
pub number_again : (n : ℕ) → n ≤ 1 → zone_number (zone_by n) ≡ n
unfolding zone_by
number_again zero h = refl
number_again (suc zero) h = refl
number_again (suc (suc n)) h = absurd (omega arith)

amounts_short_lem : (xs : List ℤ) → every nine_digits xs ≡ true → AtMost nine_digits_most xs
amounts_short_lem = every_at_most nine_digits nine_digits_most (λ x e. omega (arith, nine_means x e))

pub tests_fit : (w : Content) → count_fit w ≡ true → numbers_fit w ≡ true → Fit w
tests_fit w e f =
    let c = counted_means w e in
    let n = fitting_means w f in
    record {
      count = natural w.users;
      users = sym c.users;
      some = omega (arith, c.some);
      few = omega (arith, c.few);
      zone = zone_is w.zone (natural w.zone) c.zone c.zones;
      entry = c.entry;
      exit = c.exit;
      title = c.title;
      pooling = c.pooling;
      h = natural w.hour;
      hour = sym n.hour;
      short = omega (arith, n.short, ap nat_abs n.hour);
      entries = amounts_short_lem w.entry n.entry;
      exits = amounts_short_lem w.exit n.exit;
      titles = amounts_short_lem w.title n.title;
      poolings = amounts_short_lem w.pooling n.pooling;
    }

-- ---- to the tests

zone-fits : (x : ℤ) → (x ≡ pos 0) ⊎ (x ≡ pos 1) → zone_fit x ≡ true
unfolding zone_fit
zone-fits x (inl e) = rw e
zone-fits x (inr e) = rw e

pub fit_counted : (w : Content) → Fit w → count_fit w ≡ true
unfolding natural users_fit of_count lists_fit count_fit
fit_counted w f =
    let n = f.count in
    let some = le-leb 1 n f.some in
    let few = le-leb n users_most f.few in
    rw (f.users, some, few, zone-fits w.zone f.zone)
    (rw (eq-eqb _ _ f.entry, eq-eqb _ _ f.exit, eq-eqb _ _ f.title, eq-eqb _ _ f.pooling))

amounts_fit_lem : (xs : List ℤ) → AtMost nine_digits_most xs → every nine_digits xs ≡ true
unfolding every
amounts_fit_lem [] s = refl
amounts_fit_lem (x ∷ xs) s = both_true (means_nine x (omega (arith, s.at 0))) (amounts_fit_lem xs (at_most_tail s))

pub fit_numbers : (w : Content) → Fit w → numbers_fit w ≡ true
unfolding hour_fit amounts_short numbers_fit
fit_numbers w f =
    let amounts =
    both_true (amounts_fit_lem w.entry f.entries)
    (both_true (amounts_fit_lem w.exit f.exits) (both_true (amounts_fit_lem w.title f.titles) (amounts_fit_lem w.pooling f.poolings))) in
    rw f.hour (both_true (both_true (means_nine (pos f.h) (omega (arith, f.short))) (le-leb 0 f.h (omega arith))) amounts)

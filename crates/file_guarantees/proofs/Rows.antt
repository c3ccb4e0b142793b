-- What a line by itself may say: a row of its fields, and how large its numbers are. Assumes nothing.
use mathlib.Core.Path.{◌≡◌, refl}
use mathlib.Core.Bool.{Bool, true, false, cond}
use mathlib.Core.List.{List, [], ◌∷◌}
use Prim.Native.Nat.{ℕ, zero, suc, ◌^◌, ◌<◌, ◌≤◌}
use native.Mathlib.Omega.{arith}
use lib.Dec.{eqb, leb}
use lib.IntN.{ℤ, nat_abs}
use lib.ListN.{length}
use borrow.Author.Tests.{leb-true, eqb-true}
use Rattle.std.specs.Prelude.{Option, Some, None, IfSome, Err, IfOk, IfErr, ok_or}
use Rattle.text.specs.Bytes.{minus_sign}
use Rattle.text.specs.Numbers.{digits_from, unsigned_of, has_point, before_point, after_point, whole_of, decimals_of, mwh_of, size_of, positive, negative, amount_of}
use Rattle.text.proofs.Numbers.{digits-below, unsigned_below}
use Rattle.csv_lines.specs.Lines.{field_at}
use Rattle.allocation_row.specs.Causes.{number}
use Rattle.allocation_row.specs.Rows.{zone_number, zone_of, is_form, as_row, fields_of, row_of}
use Rattle.allocation_row.specs.declared.Row.{Row}
use Rattle.allocation_row.specs.declared.Zone.{Zone}
use Rattle.allocation_row.specs.declared.FileCause.{FileCause}
use Rattle.allocation_row.specs.declared.FileCause.TheVariants.{Form, Field}
use Rattle.allocation_row.proofs.Zones.{zone_most}
use Rattle.file_guarantees.specs.Guarantees.{NineDigits}

-- ---- how large a number is

-- a field's number, whatever the field
number_below : (f : List ℕ) → IfSome (unsigned_of f) (λ n. n < 10 ^ 9)
number_below f = unsigned_below f 9 (λ h. h)

-- a size in MWh: six digits and three
mwh_below : (u w : Option ℕ) → IfSome u (λ m. m < 10 ^ 6) → IfSome w (λ d. d < 10 ^ 3) → IfSome (mwh_of u w) (λ n. n < 10 ^ 9)
mwh_below None w p q = tt
mwh_below (Some m) None p q = tt
mwh_below (Some m) (Some d) p q = omega arith

-- a field's size
size_below : (f : List ℕ) → IfSome (size_of f) (λ n. n < 10 ^ 9)
size_below f = go (has_point f)
  where
    whole : (w : List ℕ) → IfSome (whole_of w) (λ m. m < 10 ^ 6)
    whole w = short (leb (length w) 6) refl
      where
        short : (b : Bool) → leb (length w) 6 ≡ b → IfSome (cond b (unsigned_of w) None) (λ m. m < 10 ^ 6)
        short true e = unsigned_below w 6 (λ h. leb-true (length w) 6 e)
        short false e = tt

    decimals : (d : List ℕ) → IfSome (decimals_of d) (λ n. n < 10 ^ 3)
    decimals d = three (eqb (length d) 3) refl
      where
        three : (b : Bool) → eqb (length d) 3 ≡ b → IfSome (cond b (digits_from 0 d) None) (λ n. n < 10 ^ 3)
        three true e = digits-below d 3 (omega (arith, eqb-true (length d) 3 e))
        three false e = tt

    go : (b : Bool) → IfSome (cond b (mwh_of (whole_of (before_point f)) (decimals_of (after_point f))) (unsigned_of f)) (λ n. n < 10 ^ 9)
    go true = mwh_below (whole_of (before_point f)) (decimals_of (after_point f)) (whole (before_point f)) (decimals (after_point f))
    go false = number_below f

-- a field's amount
amount_below : (f : List ℕ) → IfSome (amount_of f) (λ n. nat_abs n < 10 ^ 9)
amount_below [] = tt
amount_below (x ∷ xs) = signed (eqb x minus_sign)
  where
    plus : (u : Option ℕ) → IfSome u (λ n. n < 10 ^ 9) → IfSome (positive u) (λ n. nat_abs n < 10 ^ 9)
    plus (Some n) h = h
    plus None h = tt

    minus : (u : Option ℕ) → IfSome u (λ n. n < 10 ^ 9) → IfSome (negative u) (λ n. nat_abs n < 10 ^ 9)
    minus (Some zero) h = tt
    minus (Some (suc n)) h = h
    minus None h = tt

    signed : (b : Bool) → IfSome (cond b (negative (size_of xs)) (positive (size_of (x ∷ xs)))) (λ n. nat_abs n < 10 ^ 9)
    signed true = minus (size_of xs) (size_below xs)
    signed false = plus (size_of (x ∷ xs)) (size_below (x ∷ xs))

-- ---- what the seven fields say together: nothing, or a row of their numbers, and of the number of the zone said
pub record Made (h : Option ℕ) (z : Option Zone) (g : Option ℕ) (a b c d : Option ℤ) (r : Row) : Type 0 where
  pub hour : h ≡ Some r.hour
  pub said : Zone
  pub says : z ≡ Some said
  pub zone : zone_number said ≡ r.zone
  pub place : g ≡ Some r.place
  pub entry : a ≡ Some r.entry
  pub exit : b ≡ Some r.exit
  pub title : c ≡ Some r.title
  pub pooling : d ≡ Some r.pooling

-- the fields decide which
made : (h : Option ℕ) (z : Option Zone) (g : Option ℕ) (a b c d : Option ℤ) → IfSome (as_row h z g a b c d) (Made h z g a b c d)
unfolding as_row
made None z g a b c d = tt
made (Some h) None g a b c d = tt
made (Some h) (Some z) None a b c d = tt
made (Some h) (Some z) (Some g) None b c d = tt
made (Some h) (Some z) (Some g) (Some a) None c d = tt
made (Some h) (Some z) (Some g) (Some a) (Some b) None d = tt
made (Some h) (Some z) (Some g) (Some a) (Some b) (Some c) None = tt
made (Some h) (Some z) (Some g) (Some a) (Some b) (Some c) (Some d) =
    record { hour = refl; said = z; says = refl; zone = refl; place = refl; entry = refl; exit = refl; title = refl; pooling = refl }

-- ---- the line

-- a row that is made of a line's fields
abbrev pub MadeOf : List ℕ → Row → Type 0
MadeOf l =
    Made (unsigned_of (field_at 0 l)) (zone_of (field_at 1 l)) (unsigned_of (field_at 2 l))
    (amount_of (field_at 3 l)) (amount_of (field_at 4 l)) (amount_of (field_at 5 l)) (amount_of (field_at 6 l))

-- a line that has a row has one of its fields
pub made_of : (l : List ℕ) → IfOk (row_of l) (MadeOf l)
made_of l = go (is_form l)
  where
    fields_made : (w : Option Row) → IfSome w (MadeOf l) → IfOk (ok_or w Field) (MadeOf l)
    fields_made None m = tt
    fields_made (Some r) m = m

    go : (b : Bool) → IfOk (cond b (ok_or (fields_of l) Field) (Err Form)) (MadeOf l)
    go true =
        fields_made (fields_of l)
        (made (unsigned_of (field_at 0 l)) (zone_of (field_at 1 l)) (unsigned_of (field_at 2 l))
        (amount_of (field_at 3 l)) (amount_of (field_at 4 l)) (amount_of (field_at 5 l)) (amount_of (field_at 6 l)))
    go false = tt

-- a line that has none is turned away by 14 or by 15
abbrev pub FormOrField : FileCause → Type 0
FormOrField c = (14 ≤ number c) × (number c ≤ 15)

pub refused_alone : (l : List ℕ) → IfErr (row_of l) FormOrField
refused_alone l = go (is_form l) (fields_of l)
  where
    go : (b : Bool) (w : Option Row) → IfErr (cond b (ok_or w Field) (Err Form)) FormOrField
    go true None = (omega arith, omega arith)
    go true (Some r) = tt
    go false w = (omega arith, omega arith)

-- and a row's numbers are small
pub nine : (l : List ℕ) (r : Row) → MadeOf l r → NineDigits r
nine l r m = record {
  hour = rw m.hour at (number_below (field_at 0 l));
  zone = rw m.zone at (zone_most m.said);
  place = rw m.place at (number_below (field_at 2 l));
  entry = rw m.entry at (amount_below (field_at 3 l));
  exit = rw m.exit at (amount_below (field_at 4 l));
  title = rw m.title at (amount_below (field_at 5 l));
  pooling = rw m.pooling at (amount_below (field_at 6 l));
}

-- The two forms of an amount, and the fields that have no point. Assumes nothing.
use mathlib.Core.Path.{◌≡◌, refl, sym, ap, ◌∙◌, subst}
use mathlib.Core.Bool.{Bool, true, false, cond, ◌&&◌}
use mathlib.Core.List.{List, [], ◌∷◌, ◌++◌}
use Prim.Native.Nat.{ℕ, zero, suc, ◌+◌, ◌*◌}
use native.Mathlib.Omega.{arith}
use lib.Dec.{eqb, leb}
use lib.IntN.{ℤ, pos, negsuc}
use lib.ListN.{length}
use borrow.Author.Tests.{leb-true, le-leb, eqb-true, eq-eqb}
use Rattle.std.specs.Prelude.{Option, Some, None}
use Rattle.text.specs.Bytes.{minus_sign, point}
use Rattle.text.specs.Numbers.{digits_from, needless_zero, unsigned_of, has_point, before_point, after_point, whole_of, decimals_of, mwh_of, size_of, positive, negative, amount_of}
use Rattle.text.proofs.Numbers.{number_if}
use Rattle.text.proofs.Points.{parted, pointed, number_no_point}
use Rattle.csv_lines.specs.Lines.{field_at}
use Rattle.allocation_row.specs.Rows.{letter, zone_of}
use Rattle.allocation_row.specs.declared.Row.{Row}
use Rattle.allocation_row.specs.declared.Zone.{Zone}
use Rattle.allocation_row.specs.declared.Zone.TheVariants.{H, L}
use Rattle.file_guarantees.specs.Guarantees.{Size, in_kwh, in_mwh, Means, unsigned, minus, NoPoints}
use Rattle.file_guarantees.proofs.Rows.{MadeOf}

-- ---- a size that is read

-- the whole part and the decimals of MWh
record Parts (u w : Option ℕ) (n : ℕ) : Type 0 where
  pub m : ℕ
  pub d : ℕ
  pub whole : u ≡ Some m
  pub decimals : w ≡ Some d
  pub size : 1000 * m + d ≡ n

parts : (u w : Option ℕ) (n : ℕ) → mwh_of u w ≡ Some n → Parts u w n
parts None w n e = let q : ◌≡◌ {A = ℕ} 0 1 = cc in absurd (omega arith)
parts (Some m) None n e = let q : ◌≡◌ {A = ℕ} 0 1 = cc in absurd (omega arith)
parts (Some m) (Some d) n e =
    let q : m * 1000 + d ≡ n = cc in
    record { m = m; d = d; whole = refl; decimals = refl; size = omega arith }

-- has one of the two forms
has_form : (f : List ℕ) (n : ℕ) → size_of f ≡ Some n → Size f n
has_form f n e = go (has_point f) refl e
  where
    go : (b : Bool) → has_point f ≡ b → cond b (mwh_of (whole_of (before_point f)) (decimals_of (after_point f))) (unsigned_of f) ≡ Some n → Size f n
    go false p e = in_kwh f n p e
    go true p e =
        let q = parts (whole_of (before_point f)) (decimals_of (after_point f)) n e in
        let w = number_if (leb (length (before_point f)) 6) (unsigned_of (before_point f)) q.m q.whole in
        let d = number_if (eqb (length (after_point f)) 3) (digits_from 0 (after_point f)) q.d q.decimals in
        let short = leb-true (length (before_point f)) 6 w.0 in
        let three = eqb-true (length (after_point f)) 3 d.0 in
        let s = in_mwh (before_point f) (after_point f) q.m q.d (omega arith) w.1 (omega arith) d.1 in
        subst (λ (l : List ℕ). Size l n) (sym (parted f p)) (subst (λ (k : ℕ). Size (before_point f ++ point ∷ after_point f) k) q.size s)

-- and what has one is read
form_read : {f : List ℕ} {n : ℕ} → Size f n → size_of f ≡ Some n
form_read (in_kwh f n p e) = rw (p, e)
form_read (in_mwh w d m k short i three j) =
    pointed w d three ∙ rw (le-leb (length w) 6 short, i, eq-eqb (length d) 3 three, j) (ap Some (omega arith))

-- ---- the sign

-- no size begins with it
minus_first : (f : List ℕ) → size_of (minus_sign ∷ f) ≡ None
minus_first f = go (has_point f) (leb (length (minus_sign ∷ before_point f)) 6)
  where
    none : (f : List ℕ) → unsigned_of (minus_sign ∷ f) ≡ None
    none f = either (needless_zero (minus_sign ∷ f)) (leb 1 (length (minus_sign ∷ f)) && leb (length (minus_sign ∷ f)) 9)
      where
        either : (a b : Bool) → cond {A = Option ℕ} a None (cond b None None) ≡ None
        either true b = refl
        either false true = refl
        either false false = refl

    go : (a b : Bool)
        → cond a (mwh_of (cond b (unsigned_of (minus_sign ∷ before_point f)) None) (decimals_of (after_point f))) (unsigned_of (minus_sign ∷ f)) ≡ None
    go true true = rw (none (before_point f))
    go true false = refl
    go false b = none f

-- an amount that is read has one of the two forms
pub means : (f : List ℕ) (x : ℤ) → amount_of f ≡ Some x → Means f x
means [] x e = let q : ◌≡◌ {A = ℕ} 0 1 = cc in absurd (omega arith)
means (y ∷ f) x e = signed (eqb y minus_sign) refl e
  where
    plain : (u : Option ℕ) → size_of (y ∷ f) ≡ u → positive u ≡ Some x → Means (y ∷ f) x
    plain None i e = let q : ◌≡◌ {A = ℕ} 0 1 = cc in absurd (omega arith)
    plain (Some n) i e = let q : pos n ≡ x = cc in subst (Means (y ∷ f)) q (unsigned (has_form (y ∷ f) n i))

    below : (u : Option ℕ) → size_of f ≡ u → negative u ≡ Some x → Means (minus_sign ∷ f) x
    below None i e = let q : ◌≡◌ {A = ℕ} 0 1 = cc in absurd (omega arith)
    below (Some zero) i e = let q : ◌≡◌ {A = ℕ} 0 1 = cc in absurd (omega arith)
    below (Some (suc n)) i e = let q : negsuc n ≡ x = cc in subst (Means (minus_sign ∷ f)) q (minus (has_form f (suc n) i))

    signed : (b : Bool) → eqb y minus_sign ≡ b → cond b (negative (size_of f)) (positive (size_of (y ∷ f))) ≡ Some x → Means (y ∷ f) x
    signed true m e = rw (eqb-true y minus_sign m) (below (size_of f) refl e)
    signed false m e = plain (size_of (y ∷ f)) refl e

-- and what has one is read
pub means_read : {f : List ℕ} {x : ℤ} → Means f x → amount_of f ≡ Some x
means_read (unsigned {f = f} {n = n} s) = go f (form_read s)
  where
    go : (f : List ℕ) → size_of f ≡ Some n → amount_of f ≡ Some (pos n)
    go [] e = let q : ◌≡◌ {A = ℕ} 0 1 = cc in absurd (omega arith)
    go (y ∷ f) e = sign (eqb y minus_sign) refl
      where
        sign : (b : Bool) → eqb y minus_sign ≡ b → cond b (negative (size_of f)) (positive (size_of (y ∷ f))) ≡ Some (pos n)
        sign true m =
            let i : size_of (minus_sign ∷ f) ≡ Some n = subst (λ (z : ℕ). size_of (z ∷ f) ≡ Some n) (eqb-true y minus_sign m) e in
            let q : None ≡ Some n = sym (minus_first f) ∙ i in
            let r : ◌≡◌ {A = ℕ} 0 1 = cc in
            absurd (omega arith)
        sign false m = rw e
means_read (minus s) = rw (form_read s)

-- ---- the other fields

-- a zone's letter
zone_no_point : (f : List ℕ) (z : Zone) → zone_of f ≡ Some z → has_point f ≡ false
zone_no_point [] z e = refl
zone_no_point (x ∷ []) z e = go (eqb x (letter H)) (eqb x (letter L)) refl refl e
  where
    go : (a b : Bool) → eqb x (letter H) ≡ a → eqb x (letter L) ≡ b → cond a (Some H) (cond b (Some L) None) ≡ Some z → has_point (x ∷ []) ≡ false
    go true b h l e = rw (eqb-true x (letter H) h)
    go false true h l e = rw (eqb-true x (letter L) l)
    go false false h l e = let q : ◌≡◌ {A = ℕ} 0 1 = cc in absurd (omega arith)
zone_no_point (x ∷ y ∷ ys) z e = let q : ◌≡◌ {A = ℕ} 0 1 = cc in absurd (omega arith)

-- the first three fields of a line that is a row
pub no_points : (l : List ℕ) (r : Row) → MadeOf l r → NoPoints l
no_points l r m = record {
  hour = number_no_point (field_at 0 l) r.hour m.hour;
  zone = zone_no_point (field_at 1 l) m.said m.says;
  place = number_no_point (field_at 2 l) r.place m.place;
}

-- A point in a field: the parts that it makes, and where it may stand. Assumes nothing.
use mathlib.Core.Path.{◌≡◌, refl, sym, ap, ◌∙◌}
use mathlib.Core.Bool.{Bool, true, false, ◌&&◌, ◌||◌, cond, or-true}
use mathlib.Core.List.{List, [], ◌∷◌, ◌++◌}
use Prim.Native.Nat.{ℕ, ◌+◌, ◌*◌, ◌-◌, ◌^◌, ◌≤◌, ◌<◌}
use native.Mathlib.Numerals.{add-one}
use native.Mathlib.Omega.{arith}
use lib.Dec.{eqb, leb}
use lib.ListN.{length, get_or, take, drop, length-append, length-drop}
use lib.Seq.{get_or_at, split_at}
use borrow.Author.Tests.{eqb-true, ne_eqb, eq-eqb, le-leb}
use Rattle.std.specs.Prelude.{Option, Some, None}
use Rattle.text.specs.Bytes.{point, digit0}
use Rattle.text.specs.Numbers.{is_digit, digits_from, digits_of, needless_zero, unsigned_of, has_point, before_point, after_point, whole_of, decimals_of, mwh_of, size_of}
use Rattle.text.proofs.Numbers.{digits-below, unsigned_below}

-- ---- no whole number has a point

-- no number, whatever a test says
none_either : (b : Bool) (u : Option ℕ) → u ≡ None → cond b u None ≡ None
none_either true u e = e
none_either false u e = refl

-- digits have none
point_no_digits : (f : List ℕ) (v : ℕ) → has_point f ≡ true → digits_from v f ≡ None
point_no_digits [] v h = let q : ◌≡◌ {A = ℕ} 0 1 = cc in absurd (omega arith)
point_no_digits (x ∷ f) v h = here (eqb x point) refl h (point_no_digits f (v * 10 + (x - digit0)))
  where
    here : (b : Bool) → eqb x point ≡ b → (b || has_point f) ≡ true
        → (has_point f ≡ true → digits_from (v * 10 + (x - digit0)) f ≡ None) → digits_from v (x ∷ f) ≡ None
    here true e h on = rw (eqb-true x point e)
    here false e h on = none_either (is_digit x) (digits_from (v * 10 + (x - digit0)) f) (on h)

-- a field with one is none
point_no_number : (f : List ℕ) → has_point f ≡ true → unsigned_of f ≡ None
point_no_number f h = go (needless_zero f)
  where
    go : (b : Bool) → cond b None (digits_of f) ≡ None
    go true = refl
    go false = none_either (leb 1 (length f) && leb (length f) 9) (digits_from 0 f) (point_no_digits f 0 h)

-- so a whole number has none
pub number_no_point : (f : List ℕ) (n : ℕ) → unsigned_of f ≡ Some n → has_point f ≡ false
number_no_point f n e = go (has_point f) refl
  where
    go : (b : Bool) → has_point f ≡ b → b ≡ false
    go true h =
        let q : None ≡ Some n = sym (point_no_number f h) ∙ e in
        let r : ◌≡◌ {A = ℕ} 0 1 = cc in
        absurd (omega arith)
    go false h = refl

-- ---- the parts of a field

-- a field with a point
pub parted : (f : List ℕ) → has_point f ≡ true → f ≡ before_point f ++ point ∷ after_point f
parted [] h = let q : ◌≡◌ {A = ℕ} 0 1 = cc in absurd (omega arith)
parted (x ∷ f) h = go (eqb x point) refl h (parted f)
  where
    go : (b : Bool) → eqb x point ≡ b → (b || has_point f) ≡ true → (has_point f ≡ true → f ≡ before_point f ++ point ∷ after_point f)
        → x ∷ f ≡ cond b [] (x ∷ before_point f) ++ point ∷ cond b f (after_point f)
    go true e h on = rw (eqb-true x point e)
    go false e h on = ap (λ (l : List ℕ). x ∷ l) (on h)

-- bytes after others have their points
pub has_point-append : (w d : List ℕ) → has_point (w ++ d) ≡ (has_point w || has_point d)
has_point-append [] d = refl
has_point-append (x ∷ w) d = go (eqb x point) (has_point-append w d)
  where
    go : (b : Bool) → has_point (w ++ d) ≡ (has_point w || has_point d) → (b || has_point (w ++ d)) ≡ ((b || has_point w) || has_point d)
    go true e = refl
    go false e = e

-- so bytes with a point among them have one
pub point_among : (w d : List ℕ) → has_point (w ++ point ∷ d) ≡ true
point_among w d = has_point-append w (point ∷ d) ∙ or-true (has_point w)

-- where none stands before the point, the parts are what stands on either side
record First (w d : List ℕ) : Type 0 where
  pub before : before_point (w ++ point ∷ d) ≡ w
  pub after : after_point (w ++ point ∷ d) ≡ d

first : (w d : List ℕ) → has_point w ≡ false → First w d
first [] d h = record { before = refl; after = refl }
first (x ∷ w) d h = go (eqb x point) refl h (first w d)
  where
    go : (b : Bool) → eqb x point ≡ b → (b || has_point w) ≡ false → (has_point w ≡ false → First w d) → First (x ∷ w) d
    go true e h on = let q : ◌≡◌ {A = ℕ} 0 1 = cc in absurd (omega arith)
    go false e h on = let p = on h in record { before = rw (e, p.before); after = rw (e, p.after) }

-- where one does, what stands after the first is longer than what stands after this
later : (w d : List ℕ) → has_point w ≡ true → length d < length (after_point (w ++ point ∷ d))
later [] d h = let q : ◌≡◌ {A = ℕ} 0 1 = cc in absurd (omega arith)
later (x ∷ w) d h = go (eqb x point) h (later w d)
  where
    go : (b : Bool) → (b || has_point w) ≡ true → (has_point w ≡ true → length d < length (after_point (w ++ point ∷ d)))
        → length d < length (cond b (w ++ point ∷ d) (after_point (w ++ point ∷ d)))
    go true h on = omega (arith, length-append w (point ∷ d))
    go false h on = on h

-- ---- a size in MWh

-- nothing is left of MWh without decimals
no_decimals : (u : Option ℕ) → mwh_of u None ≡ None
no_decimals (Some m) = refl
no_decimals None = refl

-- nor of decimals that are not three
not_three : (u : Option ℕ) (d : List ℕ) → (length d ≡ 3 → ⊥) → mwh_of u (decimals_of d) ≡ None
not_three u d h = rw (ne_eqb (length d) 3 h) (no_decimals u)

-- a whole part of at most six bytes, and three bytes of decimals
module _ (w d : List ℕ) (short : length w ≤ 6) (three : length d ≡ 3) where
  -- three digits are not too many
  three_digits : digits_of d ≡ digits_from 0 d
  three_digits = rw three

  -- the size, by what the two are read as
  pub parts_size : (u v : Option ℕ) → unsigned_of w ≡ u → digits_of d ≡ v → mwh_of (whole_of w) (decimals_of d) ≡ mwh_of u v
  parts_size u v p q = rw (le-leb (length w) 6 short, p, eq-eqb (length d) 3 three, sym three_digits ∙ q)

  -- which are small
  pub parts_small : (m k : ℕ) → unsigned_of w ≡ Some m → digits_of d ≡ Some k → (m < 10 ^ 6) × (k < 10 ^ 3)
  parts_small m k p q =
      (rw p at (unsigned_below w 6 (λ h. short)), rw (sym three_digits ∙ q) at (digits-below d 3 (omega arith)))

-- any bytes, a point and three bytes have the size of a whole part and decimals, or none
pub pointed : (w d : List ℕ) → length d ≡ 3 → size_of (w ++ point ∷ d) ≡ mwh_of (whole_of w) (decimals_of d)
pointed w d h = go (has_point w) refl
  where
    go : (b : Bool) → has_point w ≡ b → size_of (w ++ point ∷ d) ≡ mwh_of (whole_of w) (decimals_of d)
    go true e =
        let long = later w d e in
        let none : whole_of w ≡ None = none_either (leb (length w) 6) (unsigned_of w) (point_no_number w e) in
        rw (point_among w d, none) (not_three (whole_of (before_point (w ++ point ∷ d))) (after_point (w ++ point ∷ d)) (λ q. omega arith))
    go false e = let p = first w d e in rw (point_among w d, p.before, p.after)

-- a point stands before the last three bytes
pub in_mwh_lem : (f : List ℕ) (n : ℕ) → length f ≡ n + 4 → get_or f n 0 ≡ point → size_of f ≡ mwh_of (whole_of (take n f)) (decimals_of (drop (n + 1) f))
in_mwh_lem f n h e =
    let parts : f ≡ take n f ++ point ∷ drop (n + 1) f = rw (add-one, ← e) (split_at f n 0 (omega arith)) in
    ap size_of parts ∙ pointed (take n f) (drop (n + 1) f) (simp length-drop (omega arith))

-- none stands there: a size is a whole number
pub in_kwh_lem : (f : List ℕ) → (3 < length f → get_or f (length f - 4) 0 ≡ point → ⊥) → size_of f ≡ unsigned_of f
in_kwh_lem f h = go (has_point f) refl
  where
    other : has_point f ≡ true → length (after_point f) ≡ 3 → ⊥
    other e q =
        let p = parted f e in
        let long : length f ≡ length (before_point f) + length (point ∷ after_point f) = ap length p ∙ length-append (before_point f) (point ∷ after_point f) in
        let there = get_or_at (before_point f) point (after_point f) 0 (length f - 4) (omega arith) in
        h (omega arith) (ap (λ (l : List ℕ). get_or l (length f - 4) 0) p ∙ there)

    go : (b : Bool) → has_point f ≡ b → size_of f ≡ unsigned_of f
    go true e = rw (e, point_no_number f e) (not_three (whole_of (before_point f)) (after_point f) (other e))
    go false e = rw e

-- Linear arithmetic of ℤ by `omega`, which reads only ℕ. Each integer is written as a difference of two naturals, `diff a b`; `simp diffs` collapses
-- sums, differences, negations, products, sizes and literals of such differences, and `omega linear` reads what is left, an order or an equation of naturals.
-- So a statement over integers is proved in one line, as `lin2 _ (λ a b c d. simp diffs (omega linear))`. Assumes nothing.
use mathlib.Core.Path.{◌≡◌, refl, sym, ap, subst}
use mathlib.Core.Bool.{Bool, true, false, cond}
use Prim.Native.Nat.{ℕ, zero, suc, ◌+◌, ◌*◌, ◌-◌, ◌^◌, ◌≤◌, ◌<◌}
use native.Mathlib.Omega.{arith}
use lib.Dec.{T, ltb}
use borrow.Author.Tests.{ltb-true, ltb-false, leb-true, leb-false, lt-ltb, le-ltb, le-leb, lt-leb}
use lib.IntN.{ℤ, pos, negsuc, nat_abs, neg_ℤ, sub_ℕ, ◌+ℤ◌, ◌*ℤ◌}
use lib.Signed.{mag, lt_z, le_z}
use mir.Syntax.{w64}
use mir.Val.{SFits}

-- what follows from a test that both holds and fails
pub not_both : {A : Type 0} → true ≡ false → A
not_both e = absurd (subst T e tt)

-- ---- the positive and the negative part: z is `pp z - np z`, and one of the two is 0
abbrev pp : ℤ → ℕ
pp (pos n) = n
pp (negsuc n) = zero

abbrev np : ℤ → ℕ
np (pos n) = zero
np (negsuc n) = suc n

by_test : (b : Bool) (x y : ℤ) (P : ℤ → Type 0) → (b ≡ true → P x) → (b ≡ false → P y) → P (cond b x y)
by_test true x y P f g = f refl
by_test false x y P f g = g refl

sub_parts : (a b : ℕ) → pp (sub_ℕ a b) + b ≡ np (sub_ℕ a b) + a
sub_parts a b = by_test (ltb a b) (negsuc (b - suc a)) (pos (a - b)) (λ z. pp z + b ≡ np z + a)
    (λ t. let h : a < b = ltb-true a b t in omega arith) (λ t. let h : b ≤ a = ltb-false a b t in omega arith)

add_parts : (x y : ℤ) → pp (x +ℤ y) + (np x + np y) ≡ np (x +ℤ y) + (pp x + pp y)
add_parts (pos a) (pos b) = omega arith
add_parts (pos a) (negsuc b) = omega (arith, sub_parts a (suc b))
add_parts (negsuc a) (pos b) = omega (arith, sub_parts b (suc a))
add_parts (negsuc a) (negsuc b) = omega arith

neg-pp : (x : ℤ) → pp (neg_ℤ x) ≡ np x
neg-pp (pos zero) = refl
neg-pp (pos (suc n)) = refl
neg-pp (negsuc n) = refl

neg-np : (x : ℤ) → np (neg_ℤ x) ≡ pp x
neg-np (pos zero) = refl
neg-np (pos (suc n)) = refl
neg-np (negsuc n) = refl

mul_parts : (x y : ℤ) → pp (x *ℤ y) + (pp x * np y + np x * pp y) ≡ np (x *ℤ y) + (pp x * pp y + np x * np y)
mul_parts (pos a) (pos b) = omega arith
mul_parts (pos a) (negsuc b) = omega (arith, neg-pp (pos (a * suc b)), neg-np (pos (a * suc b)))
mul_parts (negsuc a) (pos b) = omega (arith, neg-pp (pos (suc a * b)), neg-np (pos (suc a * b)))
mul_parts (negsuc a) (negsuc b) = omega arith

-- equations and orders, by the parts
eq_parts : (x y : ℤ) → pp x + np y ≡ pp y + np x → x ≡ y
eq_parts (pos a) (pos b) h = ap pos (omega arith)
eq_parts (pos a) (negsuc b) h = absurd (omega arith)
eq_parts (negsuc a) (pos b) h = absurd (omega arith)
eq_parts (negsuc a) (negsuc b) h = ap negsuc (omega arith)

parts_eq : (x y : ℤ) → x ≡ y → pp x + np y ≡ pp y + np x
parts_eq x y e = subst (λ (z : ℤ). pp x + np z ≡ pp z + np x) e refl

le_parts : (x y : ℤ) → pp x + np y ≤ pp y + np x → le_z x y ≡ true
le_parts (pos a) (pos b) h = le-leb a b (omega arith)
le_parts (pos a) (negsuc b) h = absurd (omega arith)
le_parts (negsuc a) (pos b) h = refl
le_parts (negsuc a) (negsuc b) h = le-leb b a (omega arith)

not_le_parts : (x y : ℤ) → pp y + np x < pp x + np y → le_z x y ≡ false
not_le_parts (pos a) (pos b) h = lt-leb a b (omega arith)
not_le_parts (pos a) (negsuc b) h = refl
not_le_parts (negsuc a) (pos b) h = absurd (omega arith)
not_le_parts (negsuc a) (negsuc b) h = lt-leb b a (omega arith)

parts_le : (x y : ℤ) → le_z x y ≡ true → pp x + np y ≤ pp y + np x
parts_le (pos a) (pos b) e = omega (arith, leb-true a b e)
parts_le (pos a) (negsuc b) e = not_both (sym e)
parts_le (negsuc a) (pos b) e = omega arith
parts_le (negsuc a) (negsuc b) e = omega (arith, leb-true b a e)

parts_not_le : (x y : ℤ) → le_z x y ≡ false → pp y + np x < pp x + np y
parts_not_le (pos a) (pos b) e = omega (arith, leb-false a b e)
parts_not_le (pos a) (negsuc b) e = omega arith
parts_not_le (negsuc a) (pos b) e = not_both e
parts_not_le (negsuc a) (negsuc b) e = omega (arith, leb-false b a e)

-- `<` is the other order, failed
pub lt_not_le : (x y : ℤ) (b : Bool) → le_z y x ≡ b → lt_z x y ≡ cond b false true
lt_not_le (pos a) (pos c) true e = le-ltb a c (leb-true c a e)
lt_not_le (pos a) (pos c) false e = lt-ltb a c (leb-false c a e)
lt_not_le (pos a) (negsuc c) true e = refl
lt_not_le (pos a) (negsuc c) false e = not_both e
lt_not_le (negsuc a) (pos c) true e = not_both (sym e)
lt_not_le (negsuc a) (pos c) false e = refl
lt_not_le (negsuc a) (negsuc c) true e = le-ltb c a (leb-true a c e)
lt_not_le (negsuc a) (negsuc c) false e = lt-ltb c a (leb-false a c e)

lt_cases : (x y : ℤ) (A : Type 0) → (le_z y x ≡ false → A) → (lt_z x y ≡ false → A) → A
lt_cases x y A f g = go (le_z y x) refl
  where
    go : (b : Bool) → le_z y x ≡ b → A
    go true e = g (lt_not_le x y true e)
    go false e = f e

parts_lt : (x y : ℤ) → lt_z x y ≡ true → pp x + np y < pp y + np x
parts_lt x y e = lt_cases x y _ (λ f. parts_not_le y x f) (λ f. not_both (subst (λ (b : Bool). true ≡ b) f (sym e)))

parts_not_lt : (x y : ℤ) → lt_z x y ≡ false → pp y + np x ≤ pp x + np y
parts_not_lt x y e = go (le_z y x) refl
  where
    go : (b : Bool) → le_z y x ≡ b → pp y + np x ≤ pp x + np y
    go true f = parts_le y x f
    go false f = not_both (subst (λ (b : Bool). b ≡ false) (lt_not_le x y false f) e)

-- ---- differences

-- a - b
pub diff : ℕ → ℕ → ℤ
diff a b = sub_ℕ a b

diff_parts : (a b : ℕ) → pp (diff a b) + b ≡ np (diff a b) + a
unfolding diff
diff_parts a b = sub_parts a b

-- the rules of `simp diffs`
pub diff_add : (a b c d : ℕ) → diff a b +ℤ diff c d ≡ diff (a + c) (b + d)
diff_add a b c d = eq_parts _ _ (omega (arith, add_parts (diff a b) (diff c d), diff_parts a b, diff_parts c d, diff_parts (a + c) (b + d)))

pub diff_neg : (a b : ℕ) → neg_ℤ (diff a b) ≡ diff b a
diff_neg a b = eq_parts _ _ (omega (arith, neg-pp (diff a b), neg-np (diff a b), diff_parts a b, diff_parts b a))

times : (k m n : ℕ) → m ≡ n → m * k ≡ n * k
times k m n e = ap (λ (t : ℕ). t * k) e

pub diff_mul : (a b c d : ℕ) → diff a b *ℤ diff c d ≡ diff (a * c + b * d) (a * d + b * c)
diff_mul a b c d =
    eq_parts _ _
    (products (pp (diff a b)) (np (diff a b)) (pp (diff c d)) (np (diff c d)) _ _ _ _
    (diff_parts a b) (diff_parts c d) (mul_parts (diff a b) (diff c d)) (diff_parts (a * c + b * d) (a * d + b * c)))
  where
    products : (x y z w m n r s : ℕ) → x + b ≡ y + a → z + d ≡ w + c → m + (x * w + y * z) ≡ n + (x * z + y * w)
        → r + (a * d + b * c) ≡ s + (a * c + b * d) → m + s ≡ r + n
    products x y z w m n r s p q e f =
        omega (arith, times z (x + b) (y + a) p, times w (x + b) (y + a) p, times a (z + d) (w + c) q, times b (z + d) (w + c) q)

pub diff_pos : (n : ℕ) → pos n ≡ diff n 0
diff_pos n = eq_parts _ _ (omega (arith, diff_parts n 0))

pub diff_negsuc : (n : ℕ) → negsuc n ≡ diff 0 (suc n)
diff_negsuc n = eq_parts _ _ (omega (arith, diff_parts 0 (suc n)))

pub diff_size : (a b : ℕ) → nat_abs (diff a b) ≡ (a - b) + (b - a)
unfolding diff
diff_size a b = by_test (ltb a b) (negsuc (b - suc a)) (pos (a - b)) (λ z. nat_abs z ≡ (a - b) + (b - a))
    (λ e. omega (arith, ltb-true a b e)) (λ e. omega (arith, ltb-false a b e))

pub diff_mag : (a b : ℕ) → mag (diff a b) ≡ (a - b) + (b - suc a)
unfolding diff
diff_mag a b = by_test (ltb a b) (negsuc (b - suc a)) (pos (a - b)) (λ z. mag z ≡ (a - b) + (b - suc a))
    (λ e. omega (arith, ltb-true a b e)) (λ e. omega (arith, ltb-false a b e))

pub ruleset diffs = (diff_add, diff_neg, diff_mul, diff_pos, diff_negsuc, diff_size, diff_mag)

-- the rules of `omega linear`: a goal from naturals, and a hypothesis to naturals
pub diff_eq : (a b c d : ℕ) → a + d ≡ c + b → diff a b ≡ diff c d
diff_eq a b c d h = eq_parts _ _ (omega (arith, diff_parts a b, diff_parts c d))

pub eq_diff : (a b c d : ℕ) → diff a b ≡ diff c d → a + d ≡ c + b
eq_diff a b c d e = omega (arith, parts_eq (diff a b) (diff c d) e, diff_parts a b, diff_parts c d)

pub diff_le : (a b c d : ℕ) → a + d ≤ c + b → le_z (diff a b) (diff c d) ≡ true
diff_le a b c d h = le_parts (diff a b) (diff c d) (omega (arith, diff_parts a b, diff_parts c d))

pub diff_not_le : (a b c d : ℕ) → c + b < a + d → le_z (diff a b) (diff c d) ≡ false
diff_not_le a b c d h = not_le_parts (diff a b) (diff c d) (omega (arith, diff_parts a b, diff_parts c d))

pub le_diff : (a b c d : ℕ) → le_z (diff a b) (diff c d) ≡ true → a + d ≤ c + b
le_diff a b c d e = omega (arith, parts_le (diff a b) (diff c d) e, diff_parts a b, diff_parts c d)

pub not_le_diff : (a b c d : ℕ) → le_z (diff a b) (diff c d) ≡ false → c + b < a + d
not_le_diff a b c d e = omega (arith, parts_not_le (diff a b) (diff c d) e, diff_parts a b, diff_parts c d)

pub diff_lt : (a b c d : ℕ) → a + d < c + b → lt_z (diff a b) (diff c d) ≡ true
diff_lt a b c d h = lt_not_le (diff a b) (diff c d) false (diff_not_le c d a b h)

pub diff_not_lt : (a b c d : ℕ) → c + b ≤ a + d → lt_z (diff a b) (diff c d) ≡ false
diff_not_lt a b c d h = lt_not_le (diff a b) (diff c d) true (diff_le c d a b h)

pub lt_diff : (a b c d : ℕ) → lt_z (diff a b) (diff c d) ≡ true → a + d < c + b
lt_diff a b c d e = omega (arith, parts_lt (diff a b) (diff c d) e, diff_parts a b, diff_parts c d)

pub not_lt_diff : (a b c d : ℕ) → lt_z (diff a b) (diff c d) ≡ false → c + b ≤ a + d
not_lt_diff a b c d e = omega (arith, parts_not_lt (diff a b) (diff c d) e, diff_parts a b, diff_parts c d)

pub diff_fits : (a b : ℕ) → (a - b) + (b - suc a) < 2 ^ 63 → SFits w64 (diff a b)
diff_fits a b h = record { sfits = rw diff_mag h }

pub ruleset linear = (arith, diff_fits, diff_eq, eq_diff, diff_le, diff_not_le, le_diff, not_le_diff, diff_lt, diff_not_lt, lt_diff, not_lt_diff)

-- ---- over every integer, from over every difference
diff_self : (z : ℤ) → diff (pp z) (np z) ≡ z
diff_self z = eq_parts _ _ (omega (arith, diff_parts (pp z) (np z)))

pub lin1 : (P : ℤ → Type 0) → ((a b : ℕ) → P (diff a b)) → (x : ℤ) → P x
lin1 P f x = subst P (diff_self x) (f (pp x) (np x))

pub lin2 : (P : ℤ → ℤ → Type 0) → ((a b c d : ℕ) → P (diff a b) (diff c d)) → (x y : ℤ) → P x y
lin2 P f x y = lin1 (λ u. P u y) (λ a b. lin1 (λ v. P (diff a b) v) (λ c d. f a b c d) y) x

pub lin3 : (P : ℤ → ℤ → ℤ → Type 0) → ((a b c d e f : ℕ) → P (diff a b) (diff c d) (diff e f)) → (x y z : ℤ) → P x y z
lin3 P g x y z = lin1 (λ u. P u y z) (λ a b. lin2 (λ v w. P (diff a b) v w) (λ c d e f. g a b c d e f) y z) x

pub lin4 : (P : ℤ → ℤ → ℤ → ℤ → Type 0) → ((a b c d e f g h : ℕ) → P (diff a b) (diff c d) (diff e f) (diff g h)) → (x y z t : ℤ) → P x y z t
lin4 P k x y z t = lin2 (λ u v. P u v z t) (λ a b c d. lin2 (λ v w. P (diff a b) (diff c d) v w) (λ e f g h. k a b c d e f g h) z t) x y

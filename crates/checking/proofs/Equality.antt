-- What `==` says of two numbers, of two lists of them, and of two day records. Assumes nothing.
use mathlib.Core.Path.{◌≡◌, refl}
use mathlib.Core.Bool.{Bool, true, false, beq, ◌&&◌}
use mathlib.Core.List.{List, [], ◌∷◌}
use lib.IntN.{ℤ}
use Rattle.std.specs.Cmp.Lexicographic.{pointwise}
use Rattle.std.specs.Ordering.{int_eq}
use Rattle.std.proofs.lemmas.Bool.Decides.{Decides-int_eq}
use Rattle.integers.specs.Ranges.{equal}
use Rattle.integers.proofs.Tests.{equal_true, equal_false}
use Rattle.rules.specs.declared.Day.{Day}
use Rattle.rules.specs.declared.ZoneDay.{ZoneDay}
use Rattle.checking.specs.Same.{same_list, same_test, same_zone, same_day}

equal_is : (x y : ℤ) → int_eq x y ≡ equal x y
equal_is x y = go (equal x y) refl
  where
    go : (b : Bool) → equal x y ≡ b → int_eq x y ≡ b
    go true e = (Decides-int_eq x y).1 (equal_true x y e)
    go false e = no (int_eq x y) refl
      where
        no : (b : Bool) → int_eq x y ≡ b → b ≡ false
        no true k = absurd (equal_false x y e ((Decides-int_eq x y).0 k))
        no false k = refl

pub same_is : (xs ys : List ℤ) → pointwise int_eq xs ys ≡ same_list xs ys
unfolding same_list
same_is [] [] = refl
same_is [] (y ∷ ys) = refl
same_is (x ∷ xs) [] = refl
same_is (x ∷ xs) (y ∷ ys) = rw (equal_is x y, same_is xs ys)

test_is : (a b : Bool) → beq a b ≡ same_test a b
unfolding same_test
test_is true true = refl
test_is true false = refl
test_is false true = refl
test_is false false = refl

abbrev zone_eq : ZoneDay → ZoneDay → Bool
zone_eq a b = int_eq a.hours b.hours && (beq a.closed b.closed && (int_eq a.sold b.sold && int_eq a.bought b.bought))

pub day_is : (a b : Day)
    → (int_eq a.users b.users && (int_eq a.length b.length && (zone_eq a.h b.h && zone_eq a.l b.l))) ≡ same_day a b
unfolding same_zone same_day
day_is a b =
    rw (
      equal_is a.users b.users,
      equal_is a.length b.length,
      equal_is a.h.hours b.h.hours,
      equal_is a.l.hours b.l.hours,
      equal_is a.h.sold b.h.sold,
      equal_is a.h.bought b.h.bought,
      equal_is a.l.sold b.l.sold,
      equal_is a.l.bought b.l.bought,
      test_is a.h.closed b.h.closed,
      test_is a.l.closed b.l.closed,
    )

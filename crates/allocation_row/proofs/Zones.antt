-- The zone's letter and its number. Assumes nothing.
use mathlib.Core.Path.{◌≡◌, refl}
use mathlib.Core.Bool.{cond}
use mathlib.Core.List.{List, [], ◌∷◌}
use Prim.Native.Nat.{ℕ, ◌≤◌}
use native.Mathlib.Omega.{arith}
use lib.Dec.{eqb}
use lib.ListN.{length, get_or}
use Rattle.std.specs.Prelude.{Some, None}
use Rattle.allocation_row.specs.declared.Zone.{Zone}
use Rattle.allocation_row.specs.declared.Zone.TheVariants.{H, L}
use Rattle.allocation_row.specs.Rows.{letter, zone_number, zone_of}

-- a field of one byte
pub zone-letter : (f : List ℕ) → length f ≡ 1
    → zone_of f ≡ cond (eqb (get_or f 0 0) (letter H)) (Some H) (cond (eqb (get_or f 0 0) (letter L)) (Some L) None)
zone-letter [] h = absurd (omega arith)
zone-letter (x ∷ []) h = refl
zone-letter (x ∷ y ∷ ys) h = absurd (omega arith)

-- any other field
pub zone_other : (f : List ℕ) → (length f ≡ 1 → ⊥) → zone_of f ≡ None
zone_other [] h = refl
zone_other (x ∷ []) h = absurd (h refl)
zone_other (x ∷ y ∷ ys) h = refl

-- two zones of one number
pub zone_same : (y z : Zone) → zone_number y ≡ zone_number z → y ≡ z
zone_same H H e = refl
zone_same H L e = absurd (omega arith)
zone_same L H e = absurd (omega arith)
zone_same L L e = refl

-- there are no others
pub zone_most : (z : Zone) → zone_number z ≤ 1
zone_most H = omega arith
zone_most L = omega arith

-- Two lists, a list outside of a run of places, and two day records, compared; and the mark of what was found. Assumes nothing.
use Rattle.std.specs.Prelude.{Bool, true, false, cond, not, ◌&&◌, List, [], ◌∷◌, ℕ, ℤ, pos, take, drop}
use Rattle.integers.specs.Ranges.{equal, is_zero}
use Rattle.rules.specs.declared.Day.{Day}
use Rattle.rules.specs.declared.ZoneDay.{ZoneDay}

-- as many numbers, and the same at each place
unfoldable pub same_list : List ℤ → List ℤ → Bool
same_list [] [] = true
same_list [] (y ∷ ys) = false
same_list (x ∷ xs) [] = false
same_list (x ∷ xs) (y ∷ ys) = equal x y && same_list xs ys

-- the same before the n places from `from` on, and after them
unfoldable pub same_outside : ℕ → ℕ → List ℤ → List ℤ → Bool
same_outside from n xs ys = same_list (take from xs) (take from ys) && same_list (drop n (drop from xs)) (drop n (drop from ys))

-- both tests hold, or neither
unfoldable pub same_test : Bool → Bool → Bool
same_test a b = cond a b (not b)

unfoldable pub same_zone : ZoneDay → ZoneDay → Bool
same_zone a b = equal a.hours b.hours && (same_test a.closed b.closed && (equal a.sold b.sold && equal a.bought b.bought))

unfoldable pub same_day : Day → Day → Bool
same_day a b = equal a.users b.users && (equal a.length b.length && (same_zone a.h b.h && same_zone a.l b.l))

-- what stands before the words of a comparison: a comma, then a blank where it holds and a `!` where it does not
unfoldable pub mark_of : Bool → List ℕ
mark_of holds = 44 ∷ cond holds 32 33 ∷ []

-- a zone's part of the record by its numbers: closed where the second is not 0, and nothing sold or bought so far
unfoldable pub zone_by : ℤ → ℤ → ZoneDay
zone_by hours closed = record { hours = hours; closed = not (is_zero closed); sold = pos 0; bought = pos 0 }

-- a zone's part, and a record, with other totals: what was sold, then what was bought, of H and then of L
unfoldable pub zone_with : ZoneDay → ℤ → ℤ → ZoneDay
zone_with z sold bought = record { hours = z.hours; closed = z.closed; sold = sold; bought = bought }

unfoldable pub with_totals : Day → ℤ → ℤ → ℤ → ℤ → Day
with_totals d h_sold h_bought l_sold l_bought =
    record { users = d.users; length = d.length; h = zone_with d.h h_sold h_bought; l = zone_with d.l l_sold l_bought }

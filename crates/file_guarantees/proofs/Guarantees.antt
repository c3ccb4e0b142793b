-- The proofs of specs/Guarantees.antt. Assumes nothing.
use mathlib.Core.Path.{◌≡◌, sym, ap, ◌∙◌, subst}
use mathlib.Core.Bool.{Bool, true, false, cond}
use mathlib.Core.List.{List, [], ◌∷◌, map}
use Prim.Native.Nat.{ℕ, ◌≤◌}
use native.Mathlib.Omega.{arith}
use lib.IntN.{pos}
use lib.ListN.{length, replicate, length-map}
use Rattle.std.specs.Prelude.{Ok}
use Rattle.allocation_row.specs.Rows.{zone_number, row_of}
use Rattle.allocation_row.specs.declared.Row.{Row}
use Rattle.allocation_row.specs.declared.Zone.{Zone}
use Rattle.allocation_row.specs.declared.FileCause.TheVariants.{Lists}
use Rattle.allocation_lines.specs.Turns.{File, refused, read}
use Rattle.allocation_file.specs.File.{lines_of, file_of, all128, outcome, answer_of}
use Rattle.file_guarantees.specs.Guarantees.{Obeys, ReadIfObeyed, FirstFaultDecides, Accepted, AcceptedObeys, CauseGiven, SmallNumbers, TwoForms, PointsInAmounts}
use Rattle.allocation_file.specs.declared.FileRead.{FileRead}
use Rattle.file_guarantees.proofs.Rows.{MadeOf, made_of, nine}
use Rattle.file_guarantees.proofs.Forms.{means, means_read, no_points}
use Rattle.file_guarantees.proofs.Obeyed.{IfRead, standing_turned, opened, obeyed, obeys_read}
use Rattle.file_guarantees.proofs.Faults.{body_fault, number_within}

-- ---- what is read, and what is refused
pub read_if_obeyed : ReadIfObeyed
read_if_obeyed s a b c d long h z rows =
    let q : outcome s a b c d ≡ file_of s = ap (λ (b : Bool). cond b (file_of s) (refused Lists)) long in
    (λ e. rw (sym q ∙ e) at (obeyed s), λ o. q ∙ obeys_read s h z rows o)

pub first_fault_decides : FirstFaultDecides
first_fault_decides s h z n before l after rows o e t w =
    opened s o ∙ rw e (body_fault h z n before l after rows (standing_turned before h z rows t) w)

-- ---- what the call answers

-- the zone that a number stands for
record Named (n : ℕ) : Type 0 where
  pub zone : Zone
  pub number : zone_number zone ≡ n

-- that of the lines is the first line's
named : {z : ℕ} (ls : List (List ℕ)) (rows : List Row)
    → 1 ≤ length rows → map row_of ls ≡ map Ok rows → map (λ r. r.zone) rows ≡ replicate (length rows) z → Named z
named ls [] some each zones = absurd (omega arith)
named [] (r ∷ rows) some each zones = let q : ◌≡◌ {A = ℕ} 0 1 = cc in absurd (omega arith)
named {z} (l ∷ ls) (r ∷ rows) some each zones =
    let is : row_of l ≡ Ok r = cc in
    let m : MadeOf l r = rw is at (made_of l) in
    let zone : r.zone ≡ z = cc in
    record { zone = m.said; number = m.zone ∙ zone }

pub accepted_obeys : AcceptedObeys
accepted_obeys s a b c d f = lists (all128 (length a) (length b) (length c) (length d))
  where
    file : (w : File) → IfRead (Obeys s) w → answer_of w ≡ Ok f → Accepted s f
    file (refused n) o e = let q : ◌≡◌ {A = ℕ} 0 1 = cc in absurd (omega arith)
    file (read h z rows) o e =
        let n : length (lines_of s) ≡ length rows = sym (length-map (lines_of s) row_of) ∙ ap length o.standing.each ∙ length-map rows Ok in
        let q : ◌≡◌ {A = FileRead} f (record { hour = pos h; zone = pos z; lines = pos (length rows) }) = cc in
        let first = named (lines_of s) rows o.some o.standing.each o.standing.zones in
        record {
          h = h;
          z = first.zone;
          rows = rows;
          obeys = subst (λ (k : ℕ). Obeys s h k rows) (sym first.number) o;
          hour = rw q;
          zone = rw (q, first.number);
          lines = rw (q, n);
          some = omega (arith, o.some);
          few = omega (arith, o.standing.few);
        }

    lists : (b : Bool) → answer_of (cond b (file_of s) (refused Lists)) ≡ Ok f → Accepted s f
    lists true e = file (file_of s) (obeyed s) e
    lists false e = let q : ◌≡◌ {A = ℕ} 0 1 = cc in absurd (omega arith)

pub cause_given : CauseGiven
cause_given s a b c d n e = number_within n

-- ---- one line
pub small_numbers : SmallNumbers
small_numbers l r e = nine l r (rw e at (made_of l))

pub two_forms : TwoForms
two_forms f x = (means f x, means_read)

pub points_in_amounts : PointsInAmounts
points_in_amounts l r e = no_points l r (rw e at (made_of l))

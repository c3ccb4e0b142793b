-- The users gone to are raised; the units left and those handed out are all; where none is left, the last of them got one. Assumes nothing.
use Prim.Native.Nat.{ℕ, ◌≤◌, ◌<◌}
use mathlib.Core.Path.{◌≡◌, sym, ap, ap₂, ◌∙◌}
use mathlib.Core.Bool.{Bool}
use mir.Syntax.{w64}
use mir.Val.{SFits, to_z, of_z}
use lib.Dec.{ltb}
use lib.IntN.{ℤ, pos, ◌+ℤ◌}
use lib.ListN.{length, get_or, take}
use Rattle.integers.specs.Lists.{bit, count}
use Rattle.integers.proofs.Counts.{bit_le, count-step}
use Rattle.integers.proofs.Machine.{read, fits, fits-add}
use Rattle.integers.proofs.Passes.{written_none, written_elem, written_next, written_rest}
use Rattle.largest_remainder.specs.Cuts.{above}
use Rattle.apportionment.specs.Pass.{raised_by, through}
use Rattle.apportionment.proofs.Handing.{count-next, count-more, raised_length, raised_at, through-here, rest_kept, visited_all}
use borrow.Author.Rules.{rules}
use native.Mathlib.Omega.{arith}
use Rattle.apportionment.proofs.hand_out.Goals.{In-loop-units}
use Rattle.apportionment.proofs.hand_out.Goals as goal

-- of a turn: its place, what stands there, and whether its user gets a unit
module _ (c : In-loop-units) where
  here : c.loop-units.visited < length c.args.remainders.now
  here =
      let a = c.args in
      let l = c.loop-units in
      count-more (λ r. ltb a.at r) a.remainders.now l.visited l.invariant.place (omega (arith, l.invariant.units, c.requires.units))

  room : c.loop-units.visited < length c.loop-units.out
  room = omega (arith, here, c.loop-units.invariant.raised.long, c.requires.long)

  abbrev was : ℤ
  was = get_or c.args.out.now c.loop-units.visited (pos 0)

  old : get_or c.loop-units.out c.loop-units.visited (pos 0) ≡ was
  old =
      let a = c.args in
      let l = c.loop-units in
      written_elem _ a.out.now l.out l.visited l.invariant.raised (raised_length a.remainders.now a.at a.out.now) (pos 0) (omega (arith, here, c.requires.long))

  abbrev gets : Bool
  gets = ltb c.args.at (get_or c.args.remainders.now c.loop-units.visited 0)

  -- the sum that is written
  module _ (unit : ℕ) (e : unit ≡ bit gets) where
    abbrev sum : ℤ
    sum = to_z w64 (of_z w64 (get_or c.loop-units.out c.loop-units.visited (pos 0))) +ℤ to_z w64 unit

    unit_fits : SFits w64 (pos unit)
    unit_fits = fits (pos unit) (omega (arith, e, bit_le gets))

    sum_is : sum ≡ was +ℤ pos unit
    sum_is =
        let small = c.requires.small c.loop-units.visited in
        ap₂ ◌+ℤ◌ (rw old (read (fits was (omega (arith, small))))) (read unit_fits)

    sum_fits : SFits w64 sum
    sum_fits = rw sum_is (fits-add was (pos unit) (omega (arith, c.requires.small c.loop-units.visited, e, bit_le gets)))

    sum_raised : to_z w64 (of_z w64 sum) ≡ get_or (raised_by c.args.remainders.now c.args.at c.args.out.now) c.loop-units.visited (pos 0)
    sum_raised =
        let a = c.args in
        read sum_fits ∙ sum_is ∙ ap (λ (n : ℕ). was +ℤ pos n) e
        ∙ sym (raised_at a.remainders.now a.at a.out.now c.loop-units.visited (omega (arith, here, c.requires.long)))

-- ---- the goals
pub loop-units-init : goal.loop-units-init
unfolding count through
loop-units-init c = search (rules, arith, written_none)

pub bounds-remainders-visited : goal.bounds-remainders-visited
bounds-remainders-visited c = here (goal.at.bounds-remainders-visited c).In-loop-units

pub slice_copy_out-out : goal.slice_copy_out-out
slice_copy_out-out c = room (goal.at.slice_copy_out-out c).In-loop-units

pub overflow_cast-out : goal.overflow_cast-out
overflow_cast-out c = unit_fits (goal.at.overflow_cast-out c).In-loop-units _ c.from-unit.ensures

pub overflow_add-out : goal.overflow_add-out
overflow_add-out c = sum_fits (goal.at.overflow_add-out c).In-loop-units _ c.from-unit.ensures

pub bounds-out-visited : goal.bounds-out-visited
bounds-out-visited c = room (goal.at.bounds-out-visited c).In-loop-units

pub loop-units-preserved : goal.loop-units-preserved
loop-units-preserved c =
    let d = (goal.at.loop-units-preserved c).In-loop-units in
    let l = c.loop-units in
    let a = c.args in
    let r = a.remainders.now in
    let o = a.out.now in
    record {
      place = omega (arith, here d);
      units = omega (arith, c.from-unit.ensures, count-step (λ x. ltb a.at x) r l.visited 0 (here d), count-next (λ x. ltb a.at x) r l.visited (here d), l.invariant.units, c.requires.units);
      raised = written_next _ o l.out l.visited l.invariant.raised (raised_length r a.at o) (pos 0) _ (omega (arith, here d, c.requires.long))
          (sum_raised d _ c.from-unit.ensures);
      ends = λ e. through-here (λ k. ltb a.at (get_or r k 0)) l.visited (omega (arith, e, c.from-unit.ensures, c.loop-units-test.true));
    }

pub loop-units-smaller : goal.loop-units-smaller
loop-units-smaller c = omega (arith, here (goal.at.loop-units-smaller c).In-loop-units)

-- where none is left
pub returns : goal.returns
returns c =
    let a = c.args in
    let r = a.remainders.now in
    let l = c.loop-units in
    let none : above r a.at ≤ above (take l.visited r) a.at = omega (arith, l.invariant.units, c.requires.units) in
    let all =
    written_rest _ a.out.now l.out l.visited l.invariant.raised (raised_length r a.at a.out.now)
    (rest_kept r a.at a.out.now c.requires.long l.visited none) in
    record {
      raised = all;
      number = rw all (visited_all r a.at a.out.now c.requires.long l.visited none l.invariant.place (l.invariant.ends (omega arith)));
    }

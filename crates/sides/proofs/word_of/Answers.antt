-- The word of the last positions: the one that is read stands before them. Assumes nothing.
use mathlib.Core.Path.{◌≡◌, ap, ◌∙◌}
use mathlib.Core.List.{[], ◌∷◌, ◌++◌, map}
use Prim.Native.Nat.{ℕ, ◌-◌, ◌^◌, ◌≤◌, ◌<◌}
use native.Mathlib.Omega.{arith}
use lib.IntN.{pos, nat_abs}
use lib.ListN.{length, get_or, drop}
use mir.Syntax.{w64}
use mir.Val.{to_z, of_z}
use Rattle.std.proofs.lemmas.Iterator.Adapters.{YieldsList-from_rev_slice}
use Rattle.std.proofs.lemmas.Iterator.Consumers.{YieldsList-turn, YieldsList-end}
use Rattle.std.proofs.lemmas.List.{length_push, length-reverse, get_or-reverse, get_or_default}
use Rattle.integers.proofs.Machine.{read, read_le, fits}
use Rattle.integers.proofs.Counts.{bit_le}
use Rattle.rules.specs.Limits.{position_most}
use Rattle.rules.specs.Market.{caused, word}
use Rattle.sides.specs.Sides.{side}
use Rattle.sides.proofs.Words.{word_none, word-less, word_next}
use Rattle.sides.proofs.word_of.Goals.{In-Some}
use Rattle.sides.proofs.word_of.Goals as goal

-- the position that is read, by its place
module _ (c : In-Some) where
  place : length c.loop-position.yielded < length c.args.positions.now
  place =
      let ps = c.args.positions.now in
      let t = YieldsList-turn (YieldsList-from_rev_slice ps cc) c.loop-position.yielded _ c.loop-position.yielded_by _ _ c.in-Some.position c.in-Some.is c.next.ensures.steps in
      omega (arith, t.0, length-reverse ps)

  abbrev before : ℕ
  before = length c.args.positions.now - 1 - length c.loop-position.yielded

  value : c.in-Some.position.now ≡ get_or c.args.positions.now before (pos 0)
  value =
      let ps = c.args.positions.now in
      let t = YieldsList-turn (YieldsList-from_rev_slice ps cc) c.loop-position.yielded _ c.loop-position.yielded_by _ _ c.in-Some.position c.in-Some.is c.next.ensures.steps in
      t.1 ∙ get_or-reverse ps (length c.loop-position.yielded) _ place ∙ get_or_default ps before _ _ (omega (arith, place))

  small : nat_abs c.in-Some.position.now ≤ position_most
  small = rw value (c.requires.1.at before)

  less : c.loop-position.word < 2 ^ 63
  less =
      let ps = c.args.positions.now in
      omega (arith, word-less (caused (side c.args.up 0)) ps (length ps - length c.loop-position.yielded) (omega (arith, place)) c.requires.0, c.loop-position.invariant)

pub loop-position-init : goal.loop-position-init
loop-position-init c = word_none (caused (side c.args.up 0)) c.args.positions.now _ (omega arith)

pub mark_on-requires : goal.mark_on-requires
mark_on-requires c = read_le c.in-Some.position.now position_most (small (goal.at.mark_on-requires c).In-Some)

pub overflow_mul-word : goal.overflow_mul-word
overflow_mul-word c = omega (arith, less c)

pub overflow_add-word : goal.overflow_add-word
overflow_add-word c =
    let d = (goal.at.overflow_add-word c).In-Some in
    omega (arith, less d, c.mark_on.ensures, bit_le (caused (side c.args.up 0) (to_z w64 (of_z w64 c.in-Some.position.now))))

pub loop-position-preserved : goal.loop-position-preserved
loop-position-preserved c =
    let d = (goal.at.loop-position-preserved c).In-Some in
    let ps = c.args.positions.now in
    let y = c.loop-position.yielded in
    let e : length ps - length (y ++ (c.in-Some.position ∷ [])) ≡ before d = omega (arith, length_push y c.in-Some.position) in
    let m = rw (read (fits c.in-Some.position.now (omega (arith, small d))), value d) at c.mark_on.ensures in
    rw e (word_next (caused (side c.args.up 0)) ps _ (before d) _ _ (omega (arith, place d)) (omega (arith, place d)) c.loop-position.invariant m)

pub returns : goal.returns
returns c =
    let ps = c.args.positions.now in
    let t = YieldsList-end (YieldsList-from_rev_slice ps cc) c.loop-position.yielded _ c.loop-position.yielded_by _ _ c.in-None.is c.next.ensures.steps in
    let e : length ps - length c.loop-position.yielded ≡ 0 = omega (arith, t.1, length-reverse ps) in
    c.loop-position.invariant ∙ ap (λ (i : ℕ). word (map (caused (side c.args.up 0)) (drop i ps))) e

-- The positions before settlement of the users passed so far: in range, and their sum. Assumes nothing.
use mathlib.Core.Path.{◌≡◌, sym, ap, ap₂, ◌∙◌}
use mathlib.Core.Bool.{Bool, ◌&&◌}
use lib.IntN.{pos}
use Prim.Native.Nat.{◌<◌}
use lib.ListN.{length, get_or}
use lib.Seq.{take_all}
use mir.Syntax.{w64}
use mir.Val.{to_z, of_z}
use Rattle.integers.specs.Lists.{sum_ℤ, every}
use Rattle.integers.proofs.Machine.{back}
use Rattle.integers.proofs.Passes.{every-step, added-fits, added_next}
use Rattle.rules.specs.Limits.{position_fit}
use Rattle.positions.specs.Before.{befores}
use Rattle.positions.proofs.Before.{length-befores}
use Rattle.amounts.proofs.Sizes.{before_most, befores_small}
use borrow.Author.Rules.{rules}
use native.Mathlib.Omega.{arith}
use Rattle.amounts.proofs.befores_of.Goals.{After-is_position-fit}
use Rattle.amounts.proofs.befores_of.Goals as goal

-- the position that is looked at, and added
before : (c : After-is_position-fit) → to_z w64 (of_z w64 c.before_at-before.result) ≡ get_or (befores c.args.part.now c.args.amounts.now) c.loop-user.user (pos 0)
before c = back _ c.before_at-before.type_inv ∙ c.before_at-before.ensures

pub loop-user-init : goal.loop-user-init
unfolding every sum_ℤ
loop-user-init c = search rules

pub overflow_add-market : goal.overflow_add-market
overflow_add-market c =
    let l = c.loop-user in
    let a = c.args in
    let few = c.requires.lent.few in
    added-fits (befores a.part.now a.amounts.now) l.user l.market-bits _ l.invariant.1 (before c) before_most
    (befores_small a.part.now a.amounts.now c.requires) (omega (arith, few, c.loop-user-test.true))

pub loop-user-preserved : goal.loop-user-preserved
loop-user-preserved c =
    let l = c.loop-user in
    let ps = befores c.args.part.now c.args.amounts.now in
    let within : l.user < length ps = omega (arith, length-befores c.args.part.now c.args.amounts.now, c.loop-user-test.true) in (
      ap₂ (λ (x y : Bool). x && y) l.invariant.0 (rw (before c) at c.is_position-fit.ensures) ∙ sym (every-step position_fit (pos 0) ps l.user within),
      added_next ps l.user l.market-bits _ l.invariant.1 (before c) within (overflow_add-market c),
    )

pub returns : goal.returns
returns c =
    let l = c.loop-user in
    let a = c.args in
    let all = take_all l.user (befores a.part.now a.amounts.now) (omega (arith, length-befores a.part.now a.amounts.now)) in
    (l.invariant.0 ∙ ap (every position_fit) all, l.invariant.1 ∙ ap sum_ℤ all)

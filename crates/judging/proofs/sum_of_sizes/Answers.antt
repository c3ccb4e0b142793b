-- Each turn adds the size of a user. Assumes nothing.
use mathlib.Core.Path.{◌≡◌, sym, ap, ◌∙◌}
use mathlib.Core.List.{List}
use Prim.Native.Nat.{◌+◌}
use lib.IntN.{ℤ}
use lib.ListN.{get_or, length, take}
use lib.Seq.{take_all}
use Rattle.integers.specs.Lists.{sum}
use Rattle.integers.proofs.Machine.{back}
use Rattle.integers.proofs.Counts.{sum_step, sum-take-le}
use Rattle.rules.specs.Market.{Imbalance, sizes}
use Rattle.rules.proofs.Settling.{length-sizes, size_at}
use Rattle.positions.specs.Before.{befores}
use Rattle.positions.specs.Against.{found}
use Rattle.positions.proofs.Before.{length-befores}
use borrow.Author.Rules.{rules}
use native.Mathlib.Omega.{arith}
use Rattle.judging.proofs.Users.{sum_small}
use Rattle.judging.proofs.sum_of_sizes.Goals.{After-size-sum}
use Rattle.judging.proofs.sum_of_sizes.Goals as goal

module _ (c : After-size-sum) where
  abbrev i : Imbalance
  i = found c.args.imbalance

  abbrev ps : List ℤ
  ps = befores c.args.part.now c.args.amounts.now

  size_is : c.size-sum.result ≡ get_or (sizes i ps) c.loop-user.user 0
  size_is =
      (rw (back _ c.before_at.type_inv, c.before_at.ensures) at c.size-sum.ensures)
      ∙ sym (size_at i ps c.loop-user.user)

  long : length (sizes i ps) ≡ length c.args.amounts.now.entries.now
  long = length-sizes i ps ∙ length-befores c.args.part.now c.args.amounts.now

  next : c.loop-user.sum + c.size-sum.result ≡ sum (take (c.loop-user.user + 1) (sizes i ps))
  next = omega (arith, c.loop-user.invariant, size_is, sum_step (sizes i ps) c.loop-user.user (omega (arith, long)))

pub loop-user-init : goal.loop-user-init
unfolding sum
loop-user-init c = search rules

pub overflow_add-sum : goal.overflow_add-sum
overflow_add-sum c =
    let few = c.requires.range.lent.few in
    omega (arith, next c, sum-take-le (sizes (i c) (ps c)) (c.loop-user.user + 1), sum_small (ps c) (omega (arith, few, length-befores c.args.part.now c.args.amounts.now)) c.requires.positions (i c))

pub loop-user-preserved : goal.loop-user-preserved
loop-user-preserved c = next (goal.at.loop-user-preserved c).After-size-sum

pub returns : goal.returns
returns c =
    let a = c.args in
    let ss = sizes (found a.imbalance) (befores a.part.now a.amounts.now) in
    c.loop-user.invariant
    ∙ ap sum (take_all c.loop-user.user ss (omega (arith, length-sizes (found a.imbalance) (befores a.part.now a.amounts.now), length-befores a.part.now a.amounts.now)))

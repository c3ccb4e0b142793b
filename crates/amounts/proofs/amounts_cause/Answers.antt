-- The causes in turn. Assumes nothing.
use mathlib.Core.Path.{◌≡◌, sym, ap, ◌∙◌}
use mathlib.Core.Bool.{Bool, true}
use native.Mathlib.Omega.{arith}
use lib.Dec.{eqb}
use mir.Syntax.{w64}
use mir.Val.{of_z}
use Rattle.std.specs.Prelude.{Ok, Err}
use Rattle.std.proofs.lemmas.Result.{err_from_is_err_and}
use Rattle.integers.specs.Ranges.{is_zero}
use Rattle.integers.specs.Lists.{sum_ℤ}
use Rattle.integers.proofs.Machine.{back, zero_bits}
use Rattle.rules.specs.declared.Cause.TheVariants as cause
use Rattle.rules.specs.Refusals.{unless}
use Rattle.rules.proofs.Refusing.{unless_none}
use Rattle.positions.specs.Before.{all_fit}
use Rattle.positions.proofs.Before.{amounts_small}
use borrow.Author.Rules.{rules}
use Rattle.amounts.specs.Amounts.{amounts_cause}
use Rattle.amounts.proofs.amounts_cause.Goals.{In_ok-require, After-require-2}
use Rattle.amounts.proofs.amounts_cause.Goals as goal

-- no amount is out of range
in_range : (c : In_ok-require) → all_fit c.args.amounts.now ≡ true
in_range c = sym c.amounts_fit.ensures ∙ unless_none _ _ (sym c.require.ensures ∙ c.in_ok-require.was)

-- the test of the sum
pooled : (c : After-require-2) → c.require-2.result ≡ unless (is_zero (sum_ℤ c.args.amounts.now.poolings.now)) cause.Pooling
pooled c =
    let test : eqb (of_z w64 c.sum_of-pooled.result) 0 ≡ is_zero (sum_ℤ c.args.amounts.now.poolings.now) =
    zero_bits {x = c.sum_of-pooled.result} (record { sfits = c.sum_of-pooled.type_inv }) ∙ ap is_zero c.sum_of-pooled.ensures in
    c.require-2.ensures ∙ ap (λ (b : Bool). unless b cause.Pooling) test

pub sum_of-pooled-requires : goal.sum_of-pooled-requires
sum_of-pooled-requires c = (
  omega (arith, c.requires.lists.poolings, c.requires.few),
  (amounts_small c.args.amounts.now (in_range (goal.at.sum_of-pooled-requires c).In_ok-require)).pooling,
)

pub befores_of-befores-requires : goal.befores_of-befores-requires
befores_of-befores-requires c = record { lent = c.requires; fit = in_range (goal.at.befores_of-befores-requires c).In_ok-require }

pub returns-in_err-require : goal.returns-in_err-require
unfolding amounts_cause
returns-in_err-require c =
    let p = err_from_is_err_and c.from_residual.result c.from_residual.ensures.1 in
    rw (← c.amounts_fit.ensures, ← c.require.ensures, c.in_err-require.was) (p.1 ∙ ap Err p.2)

pub returns-in_err-require-2 : goal.returns-in_err-require-2
unfolding amounts_cause
returns-in_err-require-2 c =
    let d = goal.at.returns-in_err-require-2 c in
    let p = err_from_is_err_and c.from_residual-in_err-require-2.result c.from_residual-in_err-require-2.ensures.1 in
    rw (in_range d.In_ok-require, ← pooled d.After-require-2, c.in_err-require-2.was) (p.1 ∙ ap Err p.2)

pub returns-in_err-require-3 : goal.returns-in_err-require-3
unfolding amounts_cause
returns-in_err-require-3 c =
    let d = goal.at.returns-in_err-require-3 c in
    let zero = unless_none _ _ (sym (pooled d.After-require-2) ∙ c.in_ok-require-2.was) in
    let p = err_from_is_err_and c.from_residual-in_err-require-3.result c.from_residual-in_err-require-3.ensures.1 in
    rw (in_range d.In_ok-require, zero, ← c.befores_of-befores.ensures.0, ← c.require-3.ensures, c.in_err-require-3.was) (p.1 ∙ ap Err p.2)

pub returns : goal.returns
unfolding amounts_cause
returns c =
    let d = goal.at.returns c in
    let zero = unless_none _ _ (sym (pooled d.After-require-2) ∙ c.in_ok-require-2.was) in
    rw (in_range d.In_ok-require, zero, ← c.befores_of-befores.ensures.0, ← c.require-3.ensures, c.in_ok-require-3.was)
    (ap Ok (back c.befores_of-befores.result.market (search rules) ∙ c.befores_of-befores.ensures.1))

-- Each turn writes one user's money. Assumes nothing.
use mathlib.Core.List.{map}
use Rattle.integers.proofs.Passes.{Written}
use Rattle.rules.specs.Market.{money_of}
use Rattle.closing.proofs.money_all.Given as goal

abbrev pub invariant-loop-i : goal.invariant-loop-i
invariant-loop-i l =
    Written (map (money_of l.excess_price l.shortfall_price) l.quantity) l.initial.money l.money l.i

-- Each turn writes a position before. Assumes nothing.
use Rattle.integers.proofs.Passes.{Written}
use Rattle.positions.specs.Before.{befores}
use Rattle.settlement.proofs.add_amounts.Given as goal

abbrev pub invariant-loop-user : goal.invariant-loop-user
invariant-loop-user l = Written (befores l.initial.positions l.amounts) l.initial.positions l.positions l.user

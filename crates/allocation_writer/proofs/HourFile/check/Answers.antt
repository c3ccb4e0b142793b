-- The tests in turn; how long the lines are is asked when the others hold. Assumes nothing.
use mathlib.Core.Path.{sym, ◌∙◌}
use Rattle.rules.proofs.Refusing.{unless_none}
use Rattle.allocation_writer.proofs.Tests.{tested}
use Rattle.allocation_writer.proofs.HourFile.check.Goals as goal

pub room_for-requires : goal.room_for-requires
room_for-requires c =
    let counts = unless_none _ _ (sym c.require.ensures ∙ c.in_ok-require.was) in
    let numbers = unless_none _ _ (sym c.require-2.ensures ∙ c.in_ok-require-2.was) in
    tested (sym c.counts_fit.ensures ∙ counts) (sym c.numbers_fit.ensures ∙ numbers)

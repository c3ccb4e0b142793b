-- The live places for their range, the others for zero. Assumes nothing.
use mathlib.Core.Path.{◌≡◌, sym, ◌∙◌}
use lib.ListN.{take}
use Rattle.integers.specs.Lists.{every}
use Rattle.rules.specs.Limits.{position_fit}
use Rattle.places.proofs.Tables.{live_fit, to_end}
use Rattle.places.proofs.part_fit.Goals.{After-all_fit}
use Rattle.places.proofs.part_fit.Goals as goal

-- the test of the live places
live : (c : After-all_fit) → c.all_fit.result ≡ every position_fit (take c.args.live c.args.part.now)
live c = c.all_fit.ensures

pub returns-then-all_fit : goal.returns-then-all_fit
returns-then-all_fit c =
    let a = c.args in
    rw (← live_fit a.part.now a.live, sym (live (goal.at.returns-then-all_fit c).After-all_fit) ∙ c.if-all_fit.true)
    (simp to_end at c.all_zero.ensures)

pub returns-else-all_fit : goal.returns-else-all_fit
returns-else-all_fit c =
    let a = c.args in
    rw (← live_fit a.part.now a.live, sym (live (goal.at.returns-else-all_fit c).After-all_fit) ∙ c.if-all_fit.false) c.if-all_fit.false

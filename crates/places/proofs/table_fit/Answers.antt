-- Part by part. Assumes nothing.
use mathlib.Core.Path.{◌≡◌, sym, ◌∙◌}
use native.Mathlib.Omega.{arith}
use lib.IntN.{pos}
use lib.ListN.{take, length-take, length-drop}
use Rattle.rules.specs.Days.{first_place, part}
use Rattle.places.proofs.Tables.{live_le, table_parts}
use Rattle.places.specs.Live.{live_places, part_fit}
use Rattle.places.proofs.table_fit.Goals.{After-part_fit}
use Rattle.places.proofs.table_fit.Goals as goal

pub part_fit-requires : goal.part_fit-requires
part_fit-requires c =
    simp length-take
    (omega (arith, c.live_places-h.ensures, live_le (pos 0) c.args.day, c.requires.few, c.requires.long))

pub part_fit-requires-then-part_fit : goal.part_fit-requires-then-part_fit
part_fit-requires-then-part_fit c =
    simp (length-take, length-drop)
    (omega (arith, c.live_places-l.ensures, live_le (pos 1) c.args.day, c.requires.few, c.requires.long))

-- the H zone's part
h_fit : (c : After-part_fit) → c.part_fit.result ≡ part_fit (live_places (pos 0) c.args.day) (take 128 c.args.table.now)
h_fit c = rw c.live_places-h.ensures at c.part_fit.ensures

pub returns-then-part_fit : goal.returns-then-part_fit
unfolding part first_place
returns-then-part_fit c =
    rw (← table_parts c.args.day c.args.table.now c.requires.long, sym (h_fit (goal.at.returns-then-part_fit c).After-part_fit) ∙ c.if-part_fit.true)
    (rw c.live_places-l.ensures at c.part_fit-then-part_fit.ensures)

pub returns-else-part_fit : goal.returns-else-part_fit
unfolding part first_place
returns-else-part_fit c =
    rw (← table_parts c.args.day c.args.table.now c.requires.long, sym (h_fit (goal.at.returns-else-part_fit c).After-part_fit) ∙ c.if-part_fit.false)
    c.if-part_fit.false

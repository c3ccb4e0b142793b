-- The zone's part is lent on. Assumes nothing.
use mathlib.Core.Path.{◌≡◌}
use mathlib.Core.Bool.{true, false}
use Rattle.integers.specs.Ranges.{is_zero}
use Rattle.integers.proofs.Machine.{read}
use Rattle.rules.proofs.Zones.{part_h, part_l}
use Rattle.settlement.proofs.Tables.{left_h, left_l}
use borrow.Author.Rules.{rules}
use native.Mathlib.Omega.{arith}
use Rattle.std.proofs.lemmas.Grind.{common_steps}
use Rattle.settlement.proofs.settle_table.Goals.{Then-terms-eq0, Else-terms-eq0}
use Rattle.settlement.proofs.settle_table.Goals as goal

-- the test of the zone, of which the machine reads the bits
h_zone : (c : Then-terms-eq0) → is_zero c.args.terms.zone ≡ true
h_zone c = search rules

l_zone : (c : Else-terms-eq0) → is_zero c.args.terms.zone ≡ false
l_zone c = grind (arith, common_steps)

pub settle_zone-requires : goal.settle_zone-requires
settle_zone-requires c = rw (read c.ranges.market) (rw (part_h _ _ (h_zone (goal.at.settle_zone-requires c).Then-terms-eq0)) at c.requires.lists)

pub settle_zone-requires-else-terms-eq0 : goal.settle_zone-requires-else-terms-eq0
settle_zone-requires-else-terms-eq0 c =
    rw (read c.ranges.market) (rw (part_l _ _ (l_zone (goal.at.settle_zone-requires-else-terms-eq0 c).Else-terms-eq0)) at c.requires.lists)

pub returns-then-terms-eq0 : goal.returns-then-terms-eq0
returns-then-terms-eq0 c = left_h _ _ _ _ _ _ _ _ _ (h_zone (goal.at.returns-then-terms-eq0 c).Then-terms-eq0) c.settle_zone.ensures

pub returns-else-terms-eq0 : goal.returns-else-terms-eq0
returns-else-terms-eq0 c = left_l _ _ _ _ _ _ _ _ _ (l_zone (goal.at.returns-else-terms-eq0 c).Else-terms-eq0) c.settle_zone-else-terms-eq0.ensures

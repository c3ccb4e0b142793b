-- The zone's part is lent on. Assumes nothing.
use mathlib.Core.Path.{◌≡◌}
use mathlib.Core.Bool.{true, false}
use Rattle.integers.specs.Ranges.{is_zero}
use Rattle.rules.proofs.Zones.{part_h, part_l}
use Rattle.closing.proofs.Parts.{left_h, left_l}
use borrow.Author.Rules.{rules}
use native.Mathlib.Omega.{arith}
use Rattle.std.proofs.lemmas.Grind.{common_steps}
use Rattle.closing.proofs.close_table.Goals.{Then-terms-eq0, Else-terms-eq0}
use Rattle.closing.proofs.close_table.Goals as goal

-- the test of the zone, of which the machine reads the bits
h_zone : (c : Then-terms-eq0) → is_zero c.args.terms.zone ≡ true
h_zone c = search rules

l_zone : (c : Else-terms-eq0) → is_zero c.args.terms.zone ≡ false
l_zone c = grind (arith, common_steps)

pub close_part-requires : goal.close_part-requires
close_part-requires c = rw (part_h _ _ (h_zone (goal.at.close_part-requires c).Then-terms-eq0)) at c.requires.lists

pub close_part-requires-else-terms-eq0 : goal.close_part-requires-else-terms-eq0
close_part-requires-else-terms-eq0 c = rw (part_l _ _ (l_zone (goal.at.close_part-requires-else-terms-eq0 c).Else-terms-eq0)) at c.requires.lists

pub returns-then-terms-eq0 : goal.returns-then-terms-eq0
returns-then-terms-eq0 c = left_h c.requires _ _ _ (h_zone (goal.at.returns-then-terms-eq0 c).Then-terms-eq0) c.close_part.ensures

pub returns-else-terms-eq0 : goal.returns-else-terms-eq0
returns-else-terms-eq0 c =
    left_l c.requires _ _ _ (l_zone (goal.at.returns-else-terms-eq0 c).Else-terms-eq0) c.close_part-else-terms-eq0.ensures

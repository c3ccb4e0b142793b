-- The zone is settled on a copy of the first places of its part. Assumes nothing.
use mathlib.Core.Path.{◌≡◌}
use lib.ListN.{length, take}
use Rattle.integers.proofs.Machine.{read, back}
use Rattle.rules.specs.Days.{part}
use Rattle.settlement.proofs.Tables.{users_asked, copy_left}
use borrow.Author.Rules.{rules}
use Rattle.settlement.proofs.settle_copy.Goals.{After-copy_places}
use Rattle.settlement.proofs.settle_copy.Goals as goal

copied : (c : After-copy_places) → c.copy_places.new.places ≡ take (length c.args.amounts.now.entries.now) (part c.args.terms.zone c.args.table.now)
copied c = rw (c.requires.1, back c.args.terms.zone (search rules)) at c.copy_places.ensures

pub settle_zone-requires : goal.settle_zone-requires
settle_zone-requires c =
    let a = c.args in
    rw (copied (goal.at.settle_zone-requires c).After-copy_places, read c.ranges.market) (users_asked _ a.amounts.now a.terms a.market _ _ c.requires.0.lists).1

pub returns : goal.returns
returns c =
    let a = c.args in
    copy_left _ a.amounts.now a.terms c.requires.0.lists.amounts.lent.room _ _ _ _ _ _ (rw (copied (goal.at.returns c).After-copy_places) at c.settle_zone.ensures)

-- Each call is handed what the one before it left (proofs/OneSide.antt). Assumes nothing.
use mathlib.Core.Path.{◌∙◌}
use Rattle.integers.proofs.Machine.{back}
use Rattle.rules.proofs.Small.{positions_small}
use Rattle.sides.proofs.OneSide.{few, apportion_asked, book_asked, price_small, side_left}
use borrow.Author.Rules.{rules}
use Rattle.sides.proofs.settle_side.Goals as goal

pub marks_of-marked-requires : goal.marks_of-marked-requires
marks_of-marked-requires c = (few c.requires, positions_small _ c.requires.positions)

pub size_all-requires : goal.size_all-requires
size_all-requires c = (c.requires.scratches, positions_small _ c.requires.positions)

pub apportion-requires : goal.apportion-requires
apportion-requires c =
    let k = apportion_asked c.requires _ c.size_all.ensures in
    record { out_len = k.0; input = k.1 }

pub book_all-requires : goal.book_all-requires
book_all-requires c =
    let price = back _ c.price_on.type_inv ∙ c.price_on.ensures in
    let b = book_asked c.requires _ c.size_all.ensures _ c.apportion.ensures.shares in
    (b.0, b.1, rw price (price_small c.requires _ c.size_all.ensures _ c.apportion.ensures.shares), b.2, b.3)

pub returns : goal.returns
returns c =
    let price = back _ c.price_on.type_inv ∙ c.price_on.ensures in
    side_left c.requires _ c.size_all.ensures _ c.apportion.ensures.shares _ _ _ _ (record { quantity = search rules; money = search rules })
    (rw price at c.book_all.ensures)
    c.apportion.ensures.cleared (search rules) c.marks_of-marked.ensures

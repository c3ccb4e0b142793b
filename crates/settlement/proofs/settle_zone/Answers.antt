-- The users' places are the first of the part. Assumes nothing.
use Rattle.integers.proofs.Machine.{read}
use Rattle.settlement.proofs.Tables.{users_asked, zone-left}
use Rattle.settlement.proofs.settle_zone.Goals as goal

pub settle_users-requires : goal.settle_users-requires
settle_users-requires c =
    let a = c.args in
    rw (read c.ranges.market) (users_asked a.part.now a.amounts.now a.terms a.market _ _ c.requires)

pub returns : goal.returns
returns c =
    let a = c.args in
    zone-left a.part.now a.amounts.now a.terms _ _ _ _ _ _ c.settle_users.ensures

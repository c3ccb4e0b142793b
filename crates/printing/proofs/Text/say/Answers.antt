-- The bytes up to the end are kept, and after them stands what there is room for. Assumes nothing.
use Rattle.printing.proofs.Said.{said_written}
use Rattle.printing.proofs.Text.say.Goals as goal

pub returns : goal.returns
returns g c =
    said_written _ _ _ _ _ _ c.args.words.now _ c.self.told c.self.invariant c.self.view_is c.min-n.ensures c.copy_from_slice.ensures.after

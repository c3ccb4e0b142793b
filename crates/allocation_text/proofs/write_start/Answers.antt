-- Four texts, one after the other. Assumes nothing.
use Rattle.std.proofs.Common.{[], ◌∷◌, refl, length}
use Rattle.text.specs.declared.writing.Writer.{Writer}
use Rattle.text.specs.Bytes.{comma}
use Rattle.text.specs.Decimals.{digits}
use Rattle.text.specs.Puts.{Room}
use Rattle.text.proofs.Puts.{Writing, writing_starts, part-fits, part_written, writing_ends}
use Rattle.allocation_row.specs.Rows.{letter}
use Rattle.allocation_row.specs.declared.Row.{Row}
use Rattle.allocation_text.specs.Text.{zone_by}
use Rattle.allocation_text.specs.Steps.{start_text}
use Rattle.allocation_text.proofs.write_start.Goals.{After-bytes}
use Rattle.allocation_text.proofs.write_start.Goals as goal

-- nothing is written yet
starts : (w : Writer) (r : Row) → Room w (length (start_text r))
    → Writing w (start_text r) w (digits r.hour ∷ (comma ∷ letter (zone_by r.zone) ∷ comma ∷ []) ∷ digits r.place ∷ (comma ∷ []) ∷ [])
unfolding start_text
starts w r room = writing_starts (start_text r) _ refl room

-- the hour and the zone are written
zone : (c : After-bytes) → Writing c.args.writer.now (start_text c.args.row) c.bytes.new.self (digits c.args.row.place ∷ (comma ∷ []) ∷ [])
zone c = part_written (part_written (starts c.args.writer.now c.args.row c.requires) c.digits.ensures) (rw (c.letter.ensures, c.zone_by.ensures) at c.bytes.ensures)

pub digits-requires : goal.digits-requires
digits-requires c = part-fits (starts c.args.writer.now c.args.row c.requires)

pub bytes-requires : goal.bytes-requires
bytes-requires c = part-fits (part_written (starts c.args.writer.now c.args.row c.requires) c.digits.ensures)

pub digits-requires-2 : goal.digits-requires-2
digits-requires-2 c = part-fits (zone (goal.at.digits-requires-2 c).After-bytes)

pub byte-requires : goal.byte-requires
byte-requires c = part-fits (part_written (zone (goal.at.byte-requires c).After-bytes) c.digits-2.ensures)

pub returns : goal.returns
returns c = writing_ends (part_written (part_written (zone (goal.at.returns c).After-bytes) c.digits-2.ensures) c.byte.ensures)

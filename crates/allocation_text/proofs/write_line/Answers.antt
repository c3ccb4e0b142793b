-- The two parts, one after the other. Assumes nothing.
use Rattle.std.proofs.Common.{[], ◌∷◌, ◌++◌, length}
use Rattle.text.specs.declared.writing.Writer.{Writer}
use Rattle.text.specs.Bytes.{line_end}
use Rattle.text.specs.Puts.{Room}
use Rattle.text.proofs.Puts.{Writing, writing_starts, part-fits, part_written, writing_ends}
use Rattle.allocation_row.specs.declared.Row.{Row}
use Rattle.allocation_text.specs.Text.{line_text}
use Rattle.allocation_text.specs.Steps.{start_text, amounts_text}
use Rattle.allocation_text.proofs.Parts.{line_parts}
use Rattle.allocation_text.proofs.write_line.Goals as goal

-- nothing is written yet
starts : (w : Writer) (r : Row) → Room w (length (line_text r ++ line_end)) → Writing w (line_text r ++ line_end) w (start_text r ∷ amounts_text r ∷ [])
starts w r room = writing_starts _ _ (line_parts r) room

pub write_start-requires : goal.write_start-requires
write_start-requires c = part-fits (starts c.args.writer.now c.args.row c.requires)

pub write_amounts-requires : goal.write_amounts-requires
write_amounts-requires c = part-fits (part_written (starts c.args.writer.now c.args.row c.requires) c.write_start.ensures)

pub returns : goal.returns
returns c =
    let s = starts c.args.writer.now c.args.row c.requires in
    writing_ends (part_written (part_written s c.write_start.ensures) c.write_amounts.ensures)

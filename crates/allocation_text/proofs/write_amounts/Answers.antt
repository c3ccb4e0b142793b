-- Five texts, one after the other. Assumes nothing.
use Rattle.std.proofs.Common.{◌≡◌, [], ◌∷◌, ℤ, refl, rules, length, w64, to_z, of_z}
use Rattle.text.specs.declared.writing.Writer.{Writer}
use Rattle.text.specs.Bytes.{line_end}
use Rattle.text.specs.Decimals.{decimal, field}
use Rattle.text.specs.Puts.{Room}
use Rattle.text.proofs.Puts.{Writing, writing_starts, part-fits, part_written, writing_ends}
use Rattle.allocation_row.specs.declared.Row.{Row}
use Rattle.allocation_text.specs.Steps.{amounts_text}
use Rattle.allocation_text.proofs.write_amounts.Goals.{After-field-3}
use Rattle.allocation_text.proofs.write_amounts.Goals as goal

-- an amount, read from its bits
abbrev bits : ℤ → ℤ
bits x = to_z w64 (of_z w64 x)

-- nothing is written yet
starts : (w : Writer) (r : Row) → Room w (length (amounts_text r))
    → (bits r.entry ≡ r.entry) × (bits r.exit ≡ r.exit) × (bits r.title ≡ r.title) × (bits r.pooling ≡ r.pooling)
    → Writing w (amounts_text r) w (field (bits r.entry) ∷ field (bits r.exit) ∷ field (bits r.title) ∷ decimal (bits r.pooling) ∷ line_end ∷ [])
unfolding amounts_text line_end
starts w r room e = rw (e.0, e.1, e.2, e.3) (writing_starts (amounts_text r) _ refl room)

-- the three fields are written
fields : (c : After-field-3) → Writing c.args.writer.now (amounts_text c.args.row) c.field-3.new.self (decimal (bits c.args.row.pooling) ∷ line_end ∷ [])
fields c =
    let s = starts c.args.writer.now c.args.row c.requires (search rules) in
    part_written (part_written (part_written s c.field.ensures.text) c.field-2.ensures.text) c.field-3.ensures.text

pub field-requires : goal.field-requires
field-requires c = part-fits (starts c.args.writer.now c.args.row c.requires (search rules))

pub field-requires-2 : goal.field-requires-2
field-requires-2 c = part-fits (part_written (starts c.args.writer.now c.args.row c.requires (search rules)) c.field.ensures.text)

pub field-requires-3 : goal.field-requires-3
field-requires-3 c =
    let s = starts c.args.writer.now c.args.row c.requires (search rules) in
    part-fits (part_written (part_written s c.field.ensures.text) c.field-2.ensures.text)

pub decimal-requires : goal.decimal-requires
decimal-requires c = part-fits (fields (goal.at.decimal-requires c).After-field-3)

pub line_end-requires : goal.line_end-requires
line_end-requires c = part-fits (part_written (fields (goal.at.line_end-requires c).After-field-3) c.decimal.ensures.text)

pub returns : goal.returns
returns c =
    let s = fields (goal.at.returns c).After-field-3 in
    writing_ends (part_written (part_written s c.decimal.ensures.text) c.line_end.ensures)

-- Six texts, one after the other, each at most as long as it may be. Assumes nothing.
use Rattle.std.proofs.Common.{arith}
use Rattle.integers.proofs.Machine.{read}
use Rattle.report.specs.Text.{user_line}
use Rattle.text.specs.Decimals.{decimal, field}
use Rattle.text.proofs.Decimals.{decimal_room, line_end_room}
use Rattle.text.proofs.Puts.{wrote_long, wrote_then, wrote_read}
use Rattle.report.proofs.write_user_line.Goals as goal

pub returns-clause-line : goal.returns-clause-line
unfolding user_line
returns-clause-line c =
    let f = c.ranges in
    let p₁ = wrote_read field (read f.place) c.field.ensures.text in
    let p₂ = wrote_read field (read f.before) c.field-2.ensures.text in
    let p₃ = wrote_read field (read f.quantity) c.field-3.ensures.text in
    let p₄ = wrote_read field (read f.money) c.field-4.ensures.text in
    let p₅ = wrote_read decimal (read f.after) c.decimal.ensures.text in
    wrote_then (wrote_then (wrote_then (wrote_then (wrote_then p₁ p₂) p₃) p₄) p₅) c.line_end.ensures

pub returns-clause-short : goal.returns-clause-short
returns-clause-short c = omega (arith, line_end_room, c.line_end.ensures.put.ends)

pub decimal-requires : goal.decimal-requires
decimal-requires c =
    omega (arith, decimal_room, wrote_long c.field.ensures.text, wrote_long c.field-2.ensures.text, wrote_long c.field-3.ensures.text, wrote_long c.field-4.ensures.text)

pub line_end-requires : goal.line_end-requires
line_end-requires c =
    omega (arith, line_end_room, wrote_long c.field.ensures.text, wrote_long c.field-2.ensures.text, wrote_long c.field-3.ensures.text, wrote_long c.field-4.ensures.text, wrote_long c.decimal.ensures.text)

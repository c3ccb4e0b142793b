-- Three texts, one after the other. Assumes nothing.
use Rattle.std.proofs.Common.{arith, rules}
use Rattle.report.specs.Text.{refused_line}
use Rattle.text.specs.Decimals.{decimal}
use Rattle.text.proofs.Decimals.{digits-length, line_end_room}
use Rattle.text.proofs.Puts.{put_length, wrote_then}
use Rattle.report.proofs.write_refused.Goals as goal

pub digits-requires : goal.digits-requires
digits-requires c =
    let p = c.bytes.ensures.put in
    omega (arith, p.ends, put_length p, digits-length 19 c.args.number (search rules))

pub line_end-requires : goal.line_end-requires
line_end-requires c =
    let p = c.bytes.ensures.put in
    let q = c.digits.ensures.put in
    omega (arith, p.ends, put_length p, q.ends, put_length q, line_end_room, digits-length 19 c.args.number (search rules))

pub returns : goal.returns
unfolding refused_line decimal
returns c = wrote_then (wrote_then c.bytes.ensures c.digits.ensures) c.line_end.ensures

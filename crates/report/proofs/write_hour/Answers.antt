-- Each turn writes a user's line. Assumes nothing.
use Rattle.std.proofs.Common.{◌≡◌, arith, rules, length}
use Rattle.report.specs.Text.{heading, user_lines, hour_text}
use Rattle.text.proofs.Puts.{put_length, wrote_then, wrote_none}
use Rattle.report.proofs.Lines.{line_more}
use Rattle.report.proofs.write_hour.Goals as goal

pub loop-i-init : goal.loop-i-init
unfolding user_lines
loop-i-init c =
    let p = c.bytes.ensures in
    record { short = omega arith; lines = wrote_none _ (omega (arith, p.put.ends, p.put.room, put_length p.put)) }

pub write_user_line-requires : goal.write_user_line-requires
write_user_line-requires c =
    let l = c.loop-i in
    let p = c.bytes.ensures.put in
    omega (arith, c.requires.room, p.ends, put_length p, put_length l.invariant.lines.put, l.invariant.short)

pub loop-i-preserved : goal.loop-i-preserved
loop-i-preserved c =
    let a = c.args in
    let l = c.loop-i in
    let p = c.write_user_line.ensures in
    record {
      short = omega (arith, l.invariant.short, p.short);
      lines = line_more a.before.now a.quantity.now a.money.now a.after.now l.i l.invariant.lines p.line
          (search rules) (search rules) (search rules) (search rules) (search rules);
    }

pub returns : goal.returns
unfolding hour_text heading
returns c =
    let l = c.loop-i in
    let e : length c.args.quantity.now ≡ l.i = omega arith in
    rw e (wrote_then c.bytes.ensures l.invariant.lines)

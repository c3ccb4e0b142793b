-- The tests, then the header and the lines. Assumes nothing.
use mathlib.Core.Path.{◌≡◌, sym, ◌∙◌}
use mathlib.Core.List.{List}
use Prim.Native.Nat.{ℕ, ◌+◌, ◌^◌, ◌≤◌, ◌<◌}
use lib.ListN.{length}
use mir.Syntax.{w64}
use mir.Val.{hbits}
use native.Mathlib.Omega.{arith}
use Rattle.std.specs.Prelude.{Ok}
use Rattle.std.proofs.Common.{rules}
use Rattle.std.proofs.Math.Facts.{to_z_pos}
use Rattle.std.proofs.lemmas.Result.{err_from_is_err_and}
use Rattle.integers.proofs.Machine.{read}
use Rattle.text.proofs.Puts.{room_left, wrote_then}
use Rattle.allocation_writer.specs.Writer.{Content, content, write_cause}
use Rattle.allocation_writer.specs.Steps.{Tested, lines_text}
use Rattle.allocation_writer.proofs.Tests.{tested}
use Rattle.allocation_writer.proofs.Calls.{text_both, text_long, accepts, refused, written}
use Rattle.allocation_writer.proofs.write_hour_file.Goals.{After-check}
use Rattle.allocation_writer.proofs.write_hour_file.Goals as goal

module _ (c : After-check) where
  abbrev w : Content
  w = content c.args.hour c.args.zone c.args.users c.args.amounts.now

  abbrev file : List ℕ
  file = c.args.file.now

  checked : c.check.result ≡ write_cause w file
  checked = rw (read c.ranges.hour, read c.ranges.zone, read c.ranges.users) at c.check.ensures

  module _ (e : c.check.result ≡ Ok tt) where
    none : write_cause w file ≡ Ok tt
    none = sym checked ∙ e

    counted : Tested w
    counted = let a = accepts w file none in tested a.counts a.numbers

    -- there is room for the header and the lines
    room : 25 + length (lines_text w) ≤ length file
    room = rw (text_long w) at (accepts w file none).room

pub returns-in_err-check : goal.returns-in_err-check
returns-in_err-check c =
    let p = err_from_is_err_and c.from_residual.result c.from_residual.ensures.1 in
    rw (p.1, p.2) (refused _ _ (sym (checked (goal.at.returns-in_err-check c).After-check) ∙ c.in_err-check.was))

pub bytes-requires : goal.bytes-requires
bytes-requires c = omega (arith, room (goal.at.bytes-requires c).After-check c.in_ok-check.was)

pub write_lines-requires : goal.write_lines-requires
write_lines-requires c =
    let d = (goal.at.write_lines-requires c).After-check in
    rw (read c.ranges.hour, read c.ranges.zone, read c.ranges.users)
    (counted d c.in_ok-check.was, room_left c.bytes.ensures (length (lines_text (w d))) (omega (arith, room d c.in_ok-check.was)))

pub returns : goal.returns
returns c =
    let d = (goal.at.returns c).After-check in
    let lines = rw (read c.ranges.hour, read c.ranges.zone, read c.ranges.users) at c.write_lines.ensures in
    let all = wrote_then c.bytes.ensures lines in
    let put = rw (← (text_both (w d))) at all.put in
    let n : c.write_lines.new.writer.end < 2 ^ hbits w64 = search rules in
    let same = all.same in
    let done = written (w d) (file d) (none d c.in_ok-check.was) put (to_z_pos w64 n) in
    search rules

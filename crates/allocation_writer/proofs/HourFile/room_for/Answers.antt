-- The text is the header and the lines. Assumes nothing.
use mathlib.Core.Path.{◌≡◌, ap}
use Prim.Native.Nat.{◌+◌}
use native.Mathlib.Omega.{arith}
use lib.Dec.{leb}
use lib.ListN.{length}
use Rattle.allocation_writer.specs.Writer.{text_of, room_for}
use Rattle.allocation_writer.specs.Steps.{content_of}
use Rattle.allocation_writer.proofs.Calls.{text_long}
use Rattle.allocation_writer.proofs.HourFile.room_for.Goals as goal

pub returns : goal.returns
unfolding room_for
returns c =
    let w = content_of c.args.self.now in
    let long : 25 + c.lines_length.result ≡ length (text_of w) = omega (arith, text_long w, c.lines_length.ensures.0) in
    ap (λ n. leb n (length c.args.file.now)) long

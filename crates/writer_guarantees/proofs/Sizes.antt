-- How long a file may be that is written. Assumes nothing.
use mathlib.Core.List.{List, [], ◌∷◌, ◌++◌, map}
use Prim.Native.Nat.{◌*◌, ◌≤◌, ◌<◌}
use native.Mathlib.Omega.{arith}
use lib.ListN.{length, length-append}
use Rattle.rules.specs.Limits.{users_most}
use Rattle.text.specs.Bytes.{line_end}
use Rattle.text.proofs.Decimals.{digits-length, decimal-size}
use Rattle.allocation_row.specs.declared.Row.{Row}
use Rattle.allocation_text.specs.Text.{line_text}
use Rattle.allocation_text.proofs.Parts.{line_long}
use Rattle.allocation_writer.specs.Writer.{ended}
use Rattle.file_guarantees.specs.Guarantees.{NineDigits}
use Rattle.writer_guarantees.proofs.Lists.{All}

-- a row whose numbers are small, at a place that a user may have
pub record Short (r : Row) : Type 0 where
  pub nine : NineDigits r
  pub place : r.place < users_most

line_short : (r : Row) → Short r → length (line_text r ++ line_end) ≤ 61
line_short r s =
    let n = s.nine in
    let hour = digits-length 8 r.hour n.hour in
    let place = digits-length 2 r.place (omega (arith, s.place)) in
    let entry = decimal-size 8 r.entry n.entry in
    let exit = decimal-size 8 r.exit n.exit in
    let title = decimal-size 8 r.title n.title in
    let pooling = decimal-size 8 r.pooling n.pooling in
    omega (arith, line_long r, hour, place, entry, exit, title, pooling)

-- the lines of such rows
pub lines_short : (rows : List Row) → All Short rows → length (ended (map line_text rows)) ≤ 61 * length rows
unfolding ended
lines_short [] s = omega arith
lines_short (r ∷ rows) s =
    let l = length-append (line_text r ++ line_end) (ended (map line_text rows)) in
    omega (arith, l, line_short r s.0, lines_short rows s.1)

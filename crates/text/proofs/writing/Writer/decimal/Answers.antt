-- By the sign: the `-`, then the digits of the size. Assumes nothing.
use Rattle.std.proofs.Common.{◌≡◌, ap, ◌∙◌, arith, nat_abs}
use Rattle.integers.proofs.Machine.{read}
use Rattle.text.proofs.Decimals.{decimal-negative, decimal-natural, negative-length, natural-length, size-length}
use Rattle.text.proofs.Puts.{wrote_then, room_left}
use Rattle.text.proofs.writing.Writer.decimal.Goals as goal
use Rattle.text.proofs.writing.Writer.decimal.Goals.{then-value-lt0, else-value-lt0}

pub byte-requires : goal.byte-requires
byte-requires c = omega (arith, negative-length c.args.value (rw (read c.ranges.value) at c.if-value-lt0.true))

pub digits-requires : goal.digits-requires
digits-requires c =
    let f = read c.ranges.value in
    let size : c.unsigned_abs.result ≡ nat_abs c.args.value = c.unsigned_abs.ensures.value ∙ ap nat_abs f in
    elim c.if-value-lt0.branch [
      | then-value-lt0 w ↦
          let n = rw (← size) at (negative-length c.args.value (rw f at w.if-value-lt0.true)) in
          rw w.self-is (room_left w.byte.ensures _ (omega (arith, c.requires, n)))
      | else-value-lt0 w ↦
          let n = rw (← size) at (natural-length c.args.value (rw f at w.if-value-lt0.false)) in
          rw w.self-is (omega (arith, c.requires, n))
    ]

pub returns-clause-text : goal.returns-clause-text
returns-clause-text c =
    let f = read c.ranges.value in
    let size : c.unsigned_abs.result ≡ nat_abs c.args.value = c.unsigned_abs.ensures.value ∙ ap nat_abs f in
    elim c.if-value-lt0.branch [
      | then-value-lt0 w ↦
          rw (decimal-negative c.args.value (rw f at w.if-value-lt0.true), ← size) (wrote_then w.byte.ensures (rw w.self-is at c.digits.ensures))
      | else-value-lt0 w ↦ rw (decimal-natural c.args.value (rw f at w.if-value-lt0.false), ← size) (rw w.self-is at c.digits.ensures)
    ]

pub returns-clause-short : goal.returns-clause-short
returns-clause-short c =
    let few = size-length c.ranges.value (c.unsigned_abs.ensures.value ∙ ap nat_abs (read c.ranges.value)) in
    let q = c.digits.ensures.put in
    elim c.if-value-lt0.branch [
      | then-value-lt0 w ↦ let p = w.byte.ensures.put in omega (arith, few, rw w.self-is at q.ends, p.ends)
      | else-value-lt0 w ↦ omega (arith, few, rw w.self-is at q.ends)
    ]

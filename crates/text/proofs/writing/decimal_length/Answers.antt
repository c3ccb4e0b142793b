-- By the sign: one byte more for the `-`. Assumes nothing.
use mathlib.Core.Path.{◌≡◌, refl}
use Prim.Native.Nat.{ℕ, ◌≤◌}
use native.Mathlib.Omega.{arith}
use lib.IntN.{ℤ, nat_abs}
use lib.ListN.{length}
use mir.Syntax.{w64}
use mir.Val.{SFits}
use Rattle.integers.proofs.Machine.{read}
use Rattle.text.specs.Decimals.{digits}
use Rattle.text.proofs.Decimals.{negative-length, natural-length, size-length}
use Rattle.text.proofs.writing.decimal_length.Goals as goal

-- the digits are counted, and there are few
few : {x : ℤ} → SFits w64 x → (n : ℕ) → n ≡ length (digits (nat_abs x)) → n ≤ 19
few f n e = rw e (size-length f refl)

pub returns-then-value-lt0 : goal.returns-then-value-lt0
returns-then-value-lt0 c =
    let v = c.ranges.value in
    let counted = rw (rw (read v) at c.unsigned_abs.ensures.value) at c.digit_count-count.ensures.0 in
    let n = negative-length c.args.value (rw (read v) at c.if-value-lt0.true) in
    (omega (arith, counted, n), omega (arith, few v _ counted))

pub returns-else-value-lt0 : goal.returns-else-value-lt0
returns-else-value-lt0 c =
    let v = c.ranges.value in
    let counted = rw (rw (read v) at c.unsigned_abs.ensures.value) at c.digit_count-count.ensures.0 in
    let n = natural-length c.args.value (rw (read v) at c.if-value-lt0.false) in
    (omega (arith, counted, n), omega (arith, few v _ counted))

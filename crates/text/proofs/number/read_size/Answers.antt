-- A point before the last three bytes parts the field. Assumes nothing.
use mathlib.Core.Path.{◌≡◌, sym, ap, ◌∙◌}
use mathlib.Core.List.{List}
use Prim.Native.Nat.{ℕ, ◌+◌, ◌-◌}
use native.Mathlib.Omega.{arith}
use lib.ListN.{length, take, drop, length-drop}
use lib.Seq.{take_all}
use Rattle.text.specs.Numbers.{whole_of, decimals_of, mwh_of}
use Rattle.text.proofs.Points.{in_mwh_lem}
use Rattle.text.proofs.number.read_size.Goals as goal

pub returns-then-field-point-eq46 : goal.returns-then-field-point-eq46
returns-then-field-point-eq46 c =
    let f = c.args.field.now in
    let n = length f - 4 in
    let three : take (length f - (n + 1)) (drop (n + 1) f) ≡ drop (n + 1) f = take_all (length f - (n + 1)) (drop (n + 1) f) (simp length-drop (omega arith)) in
    c.read_mwh.ensures ∙ ap (λ (t : List ℕ). mwh_of (whole_of (take n f)) (decimals_of t)) three
    ∙ sym (in_mwh_lem f n (omega arith) c.if-field-point-eq46.true)

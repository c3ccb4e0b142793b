-- The first n of 128 zeros are n zeros. Assumes nothing.
use mathlib.Core.Path.{◌≡◌, sym, ap, ◌∙◌}
use mathlib.Core.List.{List}
use Prim.Native.Nat.{ℕ, ◌+◌, ◌-◌, ◌≤◌}
use native.Mathlib.Omega.{arith}
use lib.IntN.{ℤ, pos}
use lib.ListN.{length, take, replicate, length-replicate, replicate-append-replicate}
use lib.Seq.{take_at, length-take-le}
use Rattle.rules.specs.Limits.{users_most}
use Rattle.rules.specs.Hours.{hour_listed}
use Rattle.hour_text.specs.Opened.{opened, unless_refused, opened_new}

zeros_take : {A : Type 0} (z : A) (n : ℕ) → n ≤ users_most → take n (replicate 128 z) ≡ replicate n z
zeros_take z n h =
    let e : n + (128 - n) ≡ 128 = omega arith in
    ap (λ (k : ℕ). take n (replicate k z)) (sym e)
    ∙ ap (take n) (sym (replicate-append-replicate n (128 - n) z))
    ∙ take_at (replicate n z) (replicate (128 - n) z) n (length-replicate n z)

pub length_zeros : {A : Type 0} (z : A) (n : ℕ) → n ≤ users_most → length (take n (replicate 128 z)) ≡ n
length_zeros z n h = ap length (zeros_take z n h) ∙ length-replicate n z

-- the zeros that the program lends are those of its text
pub opened_new_lem : (h z : ℤ) (e x t i : List ℤ) (n : ℕ) → n ≤ users_most → n ≤ length e
    → unless_refused
    (opened h z (replicate 256 (pos 0)) (length (take n e))
    (λ terms. hour_listed terms (take n e) (take n x) (take n t) (take n i) (take n (replicate 128 (pos 0))) (take n (replicate 128 (pos 0))) (take n (replicate 128 0))))
    ≡ opened_new h z (take n e) (take n x) (take n t) (take n i)
unfolding opened_new
opened_new_lem h z e x t i n few long = rw (length-take-le n e long, zeros_take (pos 0) n few, zeros_take {A = ℕ} 0 n few)

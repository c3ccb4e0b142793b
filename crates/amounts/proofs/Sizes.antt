-- A position before settlement is small even where it is out of its range, since what it is made of is in range. Assumes nothing.
use mathlib.Core.Bool.{Bool, true, false}
use mathlib.Core.List.{List}
use mathlib.Core.Path.{◌≡◌, refl}
use Prim.Native.Nat.{ℕ, ◌+◌, ◌≤◌}
use native.Mathlib.Omega.{arith}
use borrow.Author.Tests.{ltb-true, ltb-false}
use lib.Dec.{ltb}
use lib.IntN.{ℤ, pos, nat_abs, ◌+ℤ◌}
use lib.ListN.{length, get_or, get_or-eq_default}
use Rattle.integers.specs.Lists.{AtMost}
use Rattle.integers.proofs.Sizes.{size-add}
use Rattle.rules.specs.declared.Amounts.{Amounts}
use Rattle.rules.specs.Limits.{entry_most, exit_most, title_most, pooling_most, position_most}
use Rattle.rules.proofs.Small.{positions_small}
use Rattle.positions.specs.Before.{amounts_at, before_at, befores, InRange}
use Rattle.positions.proofs.Before.{length-befores, befores_at, amounts_small}

abbrev pub before_most : ℕ
before_most = position_most + (entry_most + (exit_most + (title_most + pooling_most)))

size-five : (p e x t l : ℤ) → nat_abs (p +ℤ (e +ℤ x +ℤ t +ℤ l)) ≤ nat_abs p + (nat_abs e + (nat_abs x + (nat_abs t + nat_abs l)))
size-five p e x t l = omega (arith, size-add p (e +ℤ x +ℤ t +ℤ l), size-add (e +ℤ x +ℤ t) l, size-add (e +ℤ x) t, size-add e x)

pub befores_small : (p : List ℤ) (a : Amounts) → InRange p a → AtMost before_most (befores p a)
unfolding before_at amounts_at
befores_small p a r = record { at = at }
  where
    here : (u : ℕ) → nat_abs (before_at p a u) ≤ before_most
    here u =
        let s = amounts_small a r.fit in
        omega (
          arith,
          size-five (get_or p u (pos 0)) (get_or a.entries.now u (pos 0)) (get_or a.exits.now u (pos 0)) (get_or a.titles.now u (pos 0)) (get_or a.poolings.now u (pos 0)),
          (positions_small p r.lent.positions).at u,
          s.entry.at u,
          s.exit.at u,
          s.title.at u,
          s.pooling.at u,
        )

    at : (u : ℕ) → nat_abs (get_or (befores p a) u (pos 0)) ≤ before_most
    at u = go (ltb u (length (befores p a))) refl
      where
        go : (b : Bool) → ltb u (length (befores p a)) ≡ b → nat_abs (get_or (befores p a) u (pos 0)) ≤ before_most
        go true e = rw (befores_at p a u (omega (arith, ltb-true u _ e, length-befores p a))) (here u)
        go false e = rw (get_or-eq_default (befores p a) (pos 0) {n = u} (ltb-false u _ e)) (omega arith)

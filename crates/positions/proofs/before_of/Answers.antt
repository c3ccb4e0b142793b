-- Each partial sum fits, and the amounts are grouped as rule 1 has them. Assumes nothing.
use mathlib.Core.Path.{◌≡◌}
use native.Mathlib.Omega.{arith}
use lib.IntN.{◌+ℤ◌, +ℤ_assoc}
use mir.Syntax.{w64}
use mir.Val.{SFits, to_z, of_z}
use Rattle.integers.proofs.Machine.{read, back, fits-add}
use Rattle.integers.proofs.Sizes.{size-add}
use Rattle.positions.proofs.before_of.Goals.{After-transferred}
use Rattle.positions.proofs.before_of.Goals as goal

-- the sum of the amounts and the whole sum fit, and the two results are the amounts
module _ (c : After-transferred) where
  amounts : let a = c.args in SFits w64 (a.entry +ℤ a.exit +ℤ (a.title +ℤ a.pooling))
  amounts = let a = c.args in omega (arith, fits-add, size-add a.entry a.exit, size-add a.title a.pooling)

  whole : let a = c.args in SFits w64 (a.position +ℤ (a.entry +ℤ a.exit +ℤ (a.title +ℤ a.pooling)))
  whole =
      let a = c.args in
      omega (arith, fits-add, size-add a.entry a.exit, size-add a.title a.pooling, size-add (a.entry +ℤ a.exit) (a.title +ℤ a.pooling))

  both : let a = c.args in to_z w64 (of_z w64 c.allocated.result) +ℤ to_z w64 (of_z w64 c.transferred.result) ≡ a.entry +ℤ a.exit +ℤ (a.title +ℤ a.pooling)
  both =
      let f = c.ranges in
      rw (back c.allocated.result c.allocated.type_inv, back c.transferred.result c.transferred.type_inv)
      (simp (c.allocated.ensures, c.transferred.ensures, read f.entry, read f.exit, read f.title, read f.pooling))

pub overflow_add-result-2 : goal.overflow_add-result-2
overflow_add-result-2 c =
    let d = (goal.at.overflow_add-result-2 c).After-transferred in
    rw (both d, read (amounts d), read c.ranges.position) (whole d)

pub returns : goal.returns
returns c =
    let d = (goal.at.returns c).After-transferred in
    let a = c.args in
    rw (both d, read (amounts d), read c.ranges.position, read (whole d), +ℤ_assoc (a.entry +ℤ a.exit) a.title a.pooling)

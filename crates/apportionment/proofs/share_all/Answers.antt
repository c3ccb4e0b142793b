-- The pass of proofs/Sharing.antt. Assumes nothing.
use mathlib.Core.Path.{◌≡◌}
use lib.IntN.{pos}
use lib.ListN.{get_or}
use mir.Syntax.{w64}
use mir.Val.{SFits}
use Rattle.integers.proofs.Machine.{read, fits}
use Rattle.largest_remainder.specs.Rule.{whole}
use Rattle.rules.specs.Limits.{market_most}
use Rattle.apportionment.proofs.Sharing.{sharing_none, sharing_asks, sharing_whole, sharing_fraction, sharing_given, sharing_next}
use Prim.Native.Nat.{ℕ, ◌*◌, ◌+◌, ◌/◌, ◌≤◌}
use native.Mathlib.Omega.{arith}
use Rattle.apportionment.proofs.share_all.Goals.{In-loop-i}
use Rattle.apportionment.proofs.share_all.Goals as goal

-- of a turn: the whole units there
module _ (c : In-loop-i) (w : ℕ) (q : w ≡ c.args.total * get_or c.loop-i.sizes c.loop-i.i 0 / c.args.sum_of_sizes) where
  whole_is : w ≡ whole c.args.sizes.now c.args.total (get_or c.args.sizes.now c.loop-i.i 0)
  whole_is =
      let r = c.requires in
      sharing_whole r.input r.out_len c.loop-i.invariant c.loop-i-test.true _ r.sum_of_sizes_value w q

  whole_le : c.loop-i.given + w ≤ market_most
  whole_le = sharing_given c.requires.input c.requires.out_len c.loop-i.invariant c.loop-i-test.true w whole_is

  whole_fits : SFits w64 (pos w)
  whole_fits = fits (pos w) (omega (arith, whole_le))

-- ---- the goals
pub loop-i-init : goal.loop-i-init
loop-i-init c = let a = c.args in sharing_none a.sizes.now a.total a.out.now a.sum_of_sizes

pub share_of-share-requires : goal.share_of-share-requires
share_of-share-requires c = sharing_asks c.requires.input c.requires.out_len c.loop-i.invariant c.loop-i-test.true _ c.requires.sum_of_sizes_value

pub overflow_cast-out : goal.overflow_cast-out
overflow_cast-out c = whole_fits (goal.at.overflow_cast-out c).In-loop-i _ c.share_of-share.ensures.0

pub overflow_add-given : goal.overflow_add-given
overflow_add-given c = omega (arith, whole_le (goal.at.overflow_add-given c).In-loop-i _ c.share_of-share.ensures.0)

pub loop-i-preserved : goal.loop-i-preserved
loop-i-preserved c =
    let d = (goal.at.loop-i-preserved c).In-loop-i in
    let r = c.requires in
    let l = c.loop-i in
    let k = c.share_of-share.ensures in
    rw c.max-top.ensures
    (sharing_next r.input r.out_len l.invariant c.loop-i-test.true _ _ _
    (whole_is d _ k.0)
    (sharing_fraction r.input r.out_len l.invariant c.loop-i-test.true _ r.sum_of_sizes_value _ k.1)
    (read (whole_fits d _ k.0))
    _ c.below-low.ensures.0 c.below-low.ensures.1)

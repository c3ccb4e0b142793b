-- Below the place the ties are broken; what is left is `ties` less the ties below it. Assumes nothing.
use Prim.Native.Nat.{ℕ, ◌<◌}
use mathlib.Core.Path.{◌≡◌}
use mathlib.Core.Bool.{true, and-true}
use lib.Dec.{ltb, eqb}
use lib.ListN.{length, get_or, take}
use borrow.Author.Tests.{lt-ltb}
use Rattle.integers.specs.Lists.{bit, count}
use Rattle.integers.proofs.Counts.{bit-eqb, count-step}
use Rattle.integers.proofs.Passes.{written_none, written_elem, written_next, written_rest}
use Rattle.largest_remainder.specs.Cuts.{same}
use Rattle.apportionment.proofs.Handing.{count-more, broken_length, broken_at, broken_rest}
use borrow.Author.Rules.{rules}
use native.Mathlib.Omega.{arith}
use Rattle.apportionment.proofs.break_ties.Goals.{In-loop-left}
use Rattle.apportionment.proofs.break_ties.Goals as goal

module _ (c : In-loop-left) where
  here : c.loop-left.place < length c.args.remainders.now
  here =
      let a = c.args in
      let l = c.loop-left in
      count-more (λ r. eqb a.cut.at r) a.remainders.now l.place l.invariant.place (omega (arith, l.invariant.left, c.requires))

  -- as it was, and whether it is a tie
  old : get_or c.loop-left.remainders c.loop-left.place 0 ≡ get_or c.args.remainders.now c.loop-left.place 0
  old =
      let a = c.args in
      let l = c.loop-left in
      written_elem _ a.remainders.now l.remainders l.place l.invariant.broken (broken_length a.remainders.now a.cut.at a.cut.ties) 0 here

  tie : (n : ℕ) → n ≡ bit (eqb (get_or c.loop-left.remainders c.loop-left.place 0) c.args.cut.at)
      → n ≡ bit (eqb c.args.cut.at (get_or c.args.remainders.now c.loop-left.place 0))
  tie n e = omega (arith, e, old, bit-eqb (get_or c.loop-left.remainders c.loop-left.place 0) c.args.cut.at, bit-eqb c.args.cut.at (get_or c.args.remainders.now c.loop-left.place 0))

-- ---- the goals
pub loop-left-init : goal.loop-left-init
unfolding count
loop-left-init c = search (rules, arith, written_none)

pub bounds-remainders-place : goal.bounds-remainders-place
bounds-remainders-place c = omega (arith, here (goal.at.bounds-remainders-place c).In-loop-left, c.loop-left.auto.remainders)

pub loop-left-preserved : goal.loop-left-preserved
loop-left-preserved c =
    let d = (goal.at.loop-left-preserved c).In-loop-left in
    let l = c.loop-left in
    let a = c.args in
    let r = a.remainders.now in
    let t = tie d c.from-tie.result c.from-tie.ensures in
    let first : ltb (same (take l.place r) a.cut.at) a.cut.ties ≡ true = lt-ltb (same (take l.place r) a.cut.at) a.cut.ties (omega (arith, l.invariant.left)) in
    record {
      place = omega (arith, here d);
      left = omega (arith, t, count-step (λ x. eqb a.cut.at x) r l.place 0 (here d), l.invariant.left);
      broken = written_next _ r l.remainders l.place l.invariant.broken (broken_length r a.cut.at a.cut.ties) 0 _ (here d)
          (rw (broken_at r a.cut.at a.cut.ties l.place (here d), first, and-true (eqb a.cut.at (get_or r l.place 0))) (omega (arith, old d, t)));
    }

pub loop-left-smaller : goal.loop-left-smaller
loop-left-smaller c = omega (arith, here (goal.at.loop-left-smaller c).In-loop-left)

pub returns : goal.returns
returns c =
    let a = c.args in
    let l = c.loop-left in
    written_rest _ a.remainders.now l.remainders l.place l.invariant.broken (broken_length a.remainders.now a.cut.at a.cut.ties)
    (broken_rest a.remainders.now a.cut.at a.cut.ties l.place (omega (arith, l.invariant.left)))

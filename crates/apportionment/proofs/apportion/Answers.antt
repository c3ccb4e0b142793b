-- Each call is handed what the one before it left (proofs/Whole.antt). Assumes nothing.
use mathlib.Core.Path.{◌≡◌, ◌∙◌, ap}
use Prim.Native.Nat.{ℕ, ◌^◌, ◌<◌}
use lib.ListN.{length, replicate}
use borrow.Author.Rules.{rules}
use native.Mathlib.Omega.{arith}
use Rattle.std.specs.List as Prelude
use Rattle.apportionment.proofs.Sharing.{sum_same, sum_fits}
use Rattle.apportionment.proofs.Whole.{given-le, cut_asked, hand_asked, rests_length, settled_by}
use Rattle.apportionment.proofs.apportion.Goals as goal

pub sum-sum_of_sizes-requires-clause-fits : goal.sum-sum_of_sizes-requires-clause-fits
sum-sum_of_sizes-requires-clause-fits c =
    let s = c.args.sizes.now in
    let small : Prelude.sum s < 2 ^ 64 = omega (arith, sum_same s, sum_fits s c.args.total c.requires.input) in
    search rules

pub share_all-shares-requires-clause-sum_of_sizes_value : goal.share_all-shares-requires-clause-sum_of_sizes_value
share_all-shares-requires-clause-sum_of_sizes_value c =
    let total : c.sum-sum_of_sizes.result ≡ Prelude.sum c.args.sizes.now = search rules in
    total ∙ sum_same c.args.sizes.now

pub overflow_sub-spare : goal.overflow_sub-spare
overflow_sub-spare c = given-le c.requires.input c.share_all-shares.ensures

pub find_cut-cut-requires : goal.find_cut-cut-requires
find_cut-cut-requires c = cut_asked c.requires.input c.share_all-shares.ensures

pub break_ties-requires : goal.break_ties-requires
break_ties-requires c = (c.find_cut-cut.ensures.0.fits, c.find_cut-cut.ensures.1)

pub hand_out-requires : goal.hand_out-requires
hand_out-requires c = rw c.break_ties.ensures (hand_asked c.requires.input c.share_all-shares.ensures _ _ c.find_cut-cut.ensures.0)

pub returns : goal.returns
returns c =
    let cleared : c.fill.new.self ≡ replicate (length c.share_all-shares.new.sizes) 0 = search rules in
    record {
      shares = rw c.break_ties.ensures at c.hand_out.ensures.raised ∙ settled_by c.requires.input c.share_all-shares.ensures _ _ c.find_cut-cut.ensures.0;
      cleared = cleared ∙ ap (λ (n : ℕ). replicate n 0) (rests_length c.requires.input c.share_all-shares.ensures);
    }

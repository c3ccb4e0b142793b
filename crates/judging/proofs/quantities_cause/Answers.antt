-- What the tests of the shares and of the sum count on. Assumes nothing.
use mathlib.Core.Path.{◌≡◌, sym, ◌∙◌}
use mathlib.Core.Bool.{true}
use Rattle.judging.proofs.Asking.{sum_asked, sum_right_asked}
use borrow.Author.Rules.{rules}
use Rattle.judging.proofs.quantities_cause.Goals as goal

pub shares_right-shares-requires : goal.shares_right-shares-requires
shares_right-shares-requires c =
    let asked = sum_asked c.requires in
    (c.requires.fit, c.requires.long, rw c.sum_of_sizes-sum.ensures asked.0, rw c.sum_of_sizes-sum.ensures asked.1)

pub sum_right-requires : goal.sum_right-requires
sum_right-requires c =
    let tested = rw c.sum_of_sizes-sum.ensures at c.shares_right-shares.ensures in
    let held : c.shares_right-shares.result ≡ true = search rules in
    sum_right_asked c.requires (search rules) (sym tested ∙ held)

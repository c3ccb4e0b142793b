-- Each call is handed what the one before it left (proofs/Parts.antt). Assumes nothing.
use mathlib.Core.Path.{◌≡◌}
use lib.IntN.{ℤ, pos}
use Rattle.integers.proofs.Machine.{read, read_le, fits}
use Rattle.rules.specs.Limits.{price_most}
use Rattle.rules.proofs.Small.{prices_small}
use Rattle.closing.proofs.Parts.{quantity_asked, money_asked, part_left}
use borrow.Author.Rules.{rules}
use native.Mathlib.Omega.{arith}
use Rattle.closing.proofs.close_part.Goals as goal

pub money_all-requires : goal.money_all-requires
money_all-requires c =
    let k = c.args.terms in
    let b = prices_small _ _ c.requires.prices in
    let e = read_le k.excess_price price_most b.excess in
    let f = read_le k.shortfall_price price_most b.shortfall in
    (omega (arith, e, f), omega (arith, e, f), money_asked c.requires, quantity_asked c.requires)

pub returns : goal.returns
returns c =
    let k = c.args.terms in
    let b = prices_small _ _ c.requires.prices in
    let e = read (fits k.excess_price (omega (arith, b.excess))) in
    let f = read (fits k.shortfall_price (omega (arith, b.shortfall))) in
    part_left c.requires _ _ (record { quantity = search rules; money = search rules })
    c.copy_all.ensures
    (rw (e, f) at c.money_all.ensures)
    (c.fill.ensures.after (λ (x : ℤ) (e : x ≡ pos 0). e))

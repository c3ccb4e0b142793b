-- With a record of our own no call is turned away by 2 or 25, nor by 7 with a table of our own: by their causes in turn. Assumes nothing.
use mathlib.Core.Path.{◌≡◌, refl, sym, ap, ◌∙◌}
use mathlib.Core.Bool.{Bool, true, false, ◌&&◌, ◌||◌}
use mathlib.Core.List.{List}
use Prim.Native.Nat.{ℕ}
use lib.Dec.{eqb}
use lib.IntN.{ℤ}
use Rattle.std.specs.Prelude.{Result, Ok, Err}
use Rattle.integers.proofs.Linear.{not_both}
use Rattle.rules.specs.declared.Cause.{Cause}
use Rattle.rules.specs.declared.Cause.TheVariants as cause
use Rattle.rules.specs.declared.Day.{Day}
use Rattle.rules.specs.Refusals.{number, unless, ◌then◌}
use Rattle.rules.specs.Hours.{Hour, Closing}
use Rattle.rules.specs.Market.{hour_sums, closing_sums}
use Rattle.rules.specs.Limits.{zone_fit}
use Rattle.rules.specs.Causes.{day_fit, list_long, hour_long, judge_long, closing_long, zone_open, hour_next, all_done, table_fit, prices_fit, terms_fit, amounts_fit, pooling_adds, before_fit, totals_bounded, inputs_cause, hour_cause, preview_cause, judge_inputs_cause, closing_cause}
use Rattle.rules.specs.Answers.{hour_number, preview_answer, number_by}
use Rattle.rules.specs.Judging.{quantities_cause, judge_cause}
use Rattle.rules.specs.Guarantees.{NeverBy}
use Rattle.rules.proofs.Refusing.{unless_none, number_with_day}
use Rattle.rules.proofs.Accepted.{inputs_fit_lem, hour_number_lem, closing_number_lem}
use Rattle.rules.proofs.Judging.{judge_number_lem}
use Rattle.rules.proofs.Owning.{OwnDay, own_day, hour_bounded, closing_bounded}

-- the numbers by which a day of our own is never turned away: 7 among them where its table is our own as well
abbrev pub ours : Bool → ℕ → Bool
ours tabled n = eqb n 2 || (eqb n 25 || (eqb n 7 && tabled))

module _ (tabled : Bool) where
  -- no such cause
  record Spared (c : Result Unit Cause) : Type 0 where
    is : ours tabled (number_by number c) ≡ false

  -- a test of another number, and one that holds
  other : (b : Bool) (k : Cause) → ours tabled (number k) ≡ false → Spared (unless b k)
  other true k e = record { is = refl }
  other false k e = record { is = e }

  holds : (b : Bool) (k : Cause) → b ≡ true → Spared (unless b k)
  holds b k e = rw e (record { is = refl })

  -- of two, the second where there is no first
  both : (c r : Result Unit Cause) → Spared c → (c ≡ Ok tt → Spared r) → Spared (c then r)
  both (Ok u) r s t = t refl
  both (Err k) r s t = record { is = s.is }

  -- a test, and then others
  past : (b : Bool) (k : Cause) {r : Result Unit Cause} → ours tabled (number k) ≡ false → Spared r → Spared (unless b k then r)
  past b k {r} e s = both (unless b k) r (other b k e) (λ _. s)

  held : (b : Bool) (k : Cause) {r : Result Unit Cause} → b ≡ true → Spared r → Spared (unless b k then r)
  held b k {r} e s = both (unless b k) r (holds b k e) (λ _. s)

  module _ {d : Day} (o : OwnDay d) (t : List ℤ) (fit : tabled ≡ true → table_fit d t ≡ true) where
    -- a table that is not our own may be turned away
    table_spared : Spared (unless (table_fit d t) cause.Table)
    table_spared = go tabled refl
      where
        go : (b : Bool) → tabled ≡ b → Spared (unless (table_fit d t) cause.Table)
        go true e = holds (table_fit d t) cause.Table (fit e)
        go false e = other (table_fit d t) cause.Table e

    inputs_spared : (g : Hour) → Spared (inputs_cause d t g)
    unfolding inputs_cause
    inputs_spared g =
        past (zone_fit g.terms.zone) cause.Zone refl (past (zone_open g.terms.zone d) cause.Closed refl (past (hour_next d g.terms) cause.Hour refl
        (both (unless (table_fit d t) cause.Table) _ table_spared (λ _. past (terms_fit g.terms) cause.Terms refl (past (amounts_fit g) cause.Amounts refl
        (past (pooling_adds g) cause.Pooling refl (other (before_fit d t g) cause.Positions refl)))))))

    hour_spared : (g : Hour) → Spared (hour_cause d t g)
    unfolding hour_cause
    hour_spared g =
        held (day_fit d) cause.Record (own_day o) (past (hour_long d t g) cause.Lengths refl
        (both (inputs_cause d t g) _ (inputs_spared g)
        (λ none. holds (totals_bounded g.terms.zone (hour_sums d t g) d) cause.Totals (hour_bounded o t g (inputs_fit_lem d t g none)))))

    preview_spared : (g : Hour) (lent : List ℤ) → Spared (preview_cause d t g lent)
    unfolding preview_cause
    preview_spared g lent = held (day_fit d) cause.Record (own_day o) (past (list_long d lent) cause.Lengths refl (hour_spared g))

    judge_spared : (g : Hour) (qs : List ℤ) → Spared (judge_cause d t g qs)
    unfolding judge_cause judge_inputs_cause quantities_cause
    judge_spared g qs =
        both (judge_inputs_cause d t g qs) _
        (held (day_fit d) cause.Record (own_day o) (past (judge_long d t g qs) cause.Lengths refl (inputs_spared g)))
        (λ _. past _ cause.Signs refl (past _ cause.Shares refl (other _ cause.Sum refl)))

    closing_spared : (g : Closing) → Spared (closing_cause d t g)
    unfolding closing_cause
    closing_spared g =
        held (day_fit d) cause.Record (own_day o) (past (closing_long d t g) cause.Lengths refl
        (both (unless (zone_fit g.terms.zone) cause.Zone) _ (other (zone_fit g.terms.zone) cause.Zone refl)
        (λ zone. both (unless (zone_open g.terms.zone d) cause.Closed) _ (other (zone_open g.terms.zone d) cause.Closed refl)
        (λ opens. past (all_done d g.terms) cause.Hour refl (both (unless (table_fit d t) cause.Table) _ table_spared
        (λ table. past (prices_fit g.terms.excess_price g.terms.shortfall_price) cause.Terms refl
        (holds (totals_bounded g.terms.zone (closing_sums d t g) d) cause.Totals
        (closing_bounded o t g (unless_none _ _ zone) (unless_none _ _ opens) (unless_none _ _ table)))))))))

    -- and so by none of these numbers
    pub never : (k : ℕ) → ours tabled k ≡ true → NeverBy k (record { day = d; table = t })
    unfolding hour_number preview_answer
    never k is = record {
      hour = λ g e. not_ours (hour_spared g) (sym (hour_number_lem d t g) ∙ e);
      preview = λ g lent e. not_ours (preview_spared g lent) (sym (number_with_day d (preview_cause d t g lent) _) ∙ e);
      judge = λ g qs e. not_ours (judge_spared g qs) (sym (judge_number_lem d t g qs) ∙ e);
      closing = λ g e. not_ours (closing_spared g) (sym (closing_number_lem d t g) ∙ e);
    }
      where
        not_ours : {c : Result Unit Cause} → Spared c → number_by number c ≡ k → ⊥
        not_ours {c} spared e = not_both (sym is ∙ ap (ours tabled) (sym e) ∙ spared.is)

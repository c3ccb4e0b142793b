-- What each call promises: its answer, and every lent area as it leaves it, are the ones defined. A primed name is the area at the call's end. Assumes nothing.
use Rattle.std.specs.Prelude.{◌≡◌, List, Result, ℕ, ℤ}
use Rattle.rules.specs.declared.Cause.{Cause}
use Rattle.rules.specs.declared.Day.{Day}
use Rattle.rules.specs.declared.Refusal.{Refusal}
use Rattle.rules.specs.declared.HourDone.{HourDone}
use Rattle.rules.specs.declared.ClosingDone.{ClosingDone}
use Rattle.rules.specs.Hours.{Hour, Closing}
use Rattle.rules.specs.Answers.{open_answer, open_table, hour_answer, hour_table, hour_quantity, hour_money, hour_scratch, preview_answer, preview_quantity, preview_money, preview_after, preview_scratch, closing_answer, closing_table, closing_quantity, closing_money}

pub record OpenPromise (n len : ℤ) (t t' : List ℤ) (r : Result Day Cause) : Type 0 where
  pub answer : r ≡ open_answer n len t
  pub table : t' ≡ open_table n len t

pub record HourPromise (d : Day) (t : List ℤ) (g : Hour) (t' q' m' : List ℤ) (s' : List ℕ) (r : Result HourDone Refusal) : Type 0 where
  pub answer : r ≡ hour_answer d t g
  pub table : t' ≡ hour_table d t g
  pub quantity : q' ≡ hour_quantity d t g
  pub money : m' ≡ hour_money d t g
  pub scratch : s' ≡ hour_scratch d t g

-- of a preview, a list more, for the positions after; and the table, which is lent for reading, has no line
pub record PreviewPromise (d : Day) (t : List ℤ) (g : Hour) (lent q' m' a' : List ℤ) (s' : List ℕ) (r : Result HourDone Refusal) : Type 0 where
  pub answer : r ≡ preview_answer d t g lent
  pub quantity : q' ≡ preview_quantity d t g lent
  pub money : m' ≡ preview_money d t g lent
  pub after : a' ≡ preview_after d t g lent
  pub scratch : s' ≡ preview_scratch d t g lent

pub record ClosingPromise (d : Day) (t : List ℤ) (g : Closing) (t' q' m' : List ℤ) (r : Result ClosingDone Refusal) : Type 0 where
  pub answer : r ≡ closing_answer d t g
  pub table : t' ≡ closing_table d t g
  pub quantity : q' ≡ closing_quantity d t g
  pub money : m' ≡ closing_money d t g

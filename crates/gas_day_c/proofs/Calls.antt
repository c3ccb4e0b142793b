-- A call that was given C's record as the rules hold it, and its answer for C; and the writer's. Assumes nothing.
use mathlib.Core.Path.{◌≡◌, ap, ◌∙◌}
use mathlib.Core.List.{List}
use Prim.Native.Nat.{ℕ}
use lib.IntN.{ℤ}
use Rattle.std.specs.Prelude.{Result}
use Rattle.rules.specs.declared.Day.{Day}
use Rattle.rules.specs.declared.HourDone.{HourDone}
use Rattle.rules.specs.declared.ClosingDone.{ClosingDone}
use Rattle.rules.specs.declared.Refusal.{Refusal}
use Rattle.rules.specs.Hours.{Hour, Closing}
use Rattle.rules.specs.Promises.{HourPromise, PreviewPromise, ClosingPromise}
use Rattle.allocation_writer.specs.Writer.{Content, WriteHour}
use Rattle.allocation_writer.specs.declared.WriteCause.{WriteCause}
use Rattle.record_c.specs.declared.DayC.{DayC}
use Rattle.flat.specs.declared.HourC.{HourC}
use Rattle.flat.specs.declared.ClosingC.{ClosingC}
use Rattle.flat.specs.declared.WrittenC.{WrittenC}
use Rattle.record_c.specs.Records.{day_of}
use Rattle.flat.specs.Flat.{flat_hour, flat_closing, flat_written}
use Rattle.gas_day_c.specs.Promises.{HourForC, PreviewForC, ClosingForC, WriteForC}

module _ {d : DayC} {e : Day} {t q' m' : List ℤ} (is : e ≡ day_of d) where
  pub hour_for_c : {g : Hour} {t' : List ℤ} {s' : List ℕ} {a : Result HourDone Refusal} {r : HourC} → HourPromise e t g t' q' m' s' a → r ≡ flat_hour d a
      → HourForC d t g t' q' m' s' r
  hour_for_c p f =
      let p = rw is at p in
      record { answer = f ∙ ap (flat_hour d) p.answer; table = p.table; quantity = p.quantity; money = p.money; scratch = p.scratch }

  pub preview_for_c : {g : Hour} {lent a' : List ℤ} {s' : List ℕ} {a : Result HourDone Refusal} {r : HourC} → PreviewPromise e t g lent q' m' a' s' a
      → r ≡ flat_hour d a → PreviewForC d t g lent q' m' a' s' r
  preview_for_c p f =
      let p = rw is at p in
      record { answer = f ∙ ap (flat_hour d) p.answer; quantity = p.quantity; money = p.money; after = p.after; scratch = p.scratch }

  pub closing_for_c : {g : Closing} {t' : List ℤ} {a : Result ClosingDone Refusal} {r : ClosingC} → ClosingPromise e t g t' q' m' a → r ≡ flat_closing d a
      → ClosingForC d t g t' q' m' r
  closing_for_c p f =
      let p = rw is at p in
      record { answer = f ∙ ap (flat_closing d) p.answer; table = p.table; quantity = p.quantity; money = p.money }

-- the writer, with what it is to write read back from its bits
pub write_for_c : {v w : Content} {file file' : List ℕ} {a : Result ℤ WriteCause} {r : WrittenC} → v ≡ w
    → WriteHour v file a file' → r ≡ flat_written a → WriteForC w file r file'
write_for_c is p f = record { answer = rw (← is) (f ∙ ap flat_written p.answer); bytes = rw (← is) p.bytes }

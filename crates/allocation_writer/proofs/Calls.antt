-- What the tests of the causes leave to count on, and the call's contract at each of its ends. Assumes nothing.
use mathlib.Core.Path.{◌≡◌, refl, sym, ap, ◌∙◌}
use mathlib.Core.Bool.{true}
use mathlib.Core.List.{List, ◌++◌}
use Prim.Native.Nat.{ℕ, ◌+◌, ◌≤◌}
use native.Mathlib.Omega.{arith}
use borrow.Author.Tests.{leb-true}
use lib.IntN.{ℤ, pos}
use lib.ListN.{length, length-append}
use Rattle.std.specs.Prelude.{Ok, Err}
use Rattle.rules.specs.Refusals.{unless, ◌then◌}
use Rattle.rules.proofs.Refusing.{unless_none, then_none, by_none, by_some}
use Rattle.text.specs.Puts.{Put}
use Rattle.allocation_file.specs.File.{header}
use Rattle.allocation_writer.specs.declared.WriteCause.{WriteCause}
use Rattle.allocation_writer.specs.declared.WriteCause.TheVariants.{Counts, Digits, Room}
use Rattle.allocation_writer.specs.Writer.{Content, file_text, text_of, count_fit, numbers_fit}
use Rattle.allocation_writer.specs.Writer.{room_for, write_cause, write_answer, written_file, WriteHour}
use Rattle.allocation_writer.specs.Steps.{lines_text}

module _ (w : Content) where
  -- the text is the header and the lines
  pub text_both : text_of w ≡ header ++ lines_text w
  unfolding text_of file_text lines_text
  text_both = refl

  pub text_long : length (text_of w) ≡ 25 + length (lines_text w)
  text_long = rw text_both (omega (arith, length-append header (lines_text w)))

  module _ (file : List ℕ) where
    -- no cause: each test holds
    pub record Accepted : Type 0 where
      pub counts : count_fit w ≡ true
      pub numbers : numbers_fit w ≡ true
      pub room : length (text_of w) ≤ length file

    pub accepts : write_cause w file ≡ Ok tt → Accepted
    unfolding write_cause room_for
    accepts e =
        let chain : (unless (count_fit w) Counts then unless (numbers_fit w) Digits then unless (room_for w file) Room) ≡ Ok tt = e in
        let p = then_none chain in
        let q = then_none p.1 in
        record {
          counts = unless_none _ _ p.0;
          numbers = unless_none _ _ q.0;
          room = leb-true _ _ (unless_none _ _ q.1);
        }

    -- ---- the ends of the call
    pub refused : {k : WriteCause} → write_cause w file ≡ Err k → WriteHour w file (Err k) file
    unfolding write_answer written_file
    refused e = record { answer = rw e; bytes = sym (by_some _ _ _ e) }

    -- r bytes are written, and x is their number
    pub written : {file' : List ℕ} {r : ℕ} {x : ℤ} → write_cause w file ≡ Ok tt → Put file 0 (text_of w) file' r → x ≡ pos r → WriteHour w file (Ok x) file'
    unfolding write_answer written_file
    written e p q =
        let z : 0 + length (text_of w) ≡ length (text_of w) = omega arith in
        record { answer = rw e (ap Ok (q ∙ ap pos (p.ends ∙ z))); bytes = rw (by_none _ _ _ e, ← z) p.bytes }

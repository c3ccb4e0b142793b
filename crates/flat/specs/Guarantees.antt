-- What is proved of the record at the boundary to C. Statements only; the proofs are in proofs/Guarantees.antt, and the crate `certificate` asks for each. Assumes nothing.
use Rattle.std.specs.Prelude.{◌≡◌, false, List, ℤ}
use Rattle.rules.specs.Hours.{Hour, Closing}
use Rattle.rules.specs.Answers.{hour_answer, preview_answer, closing_answer}
use Rattle.rules.specs.Judging.{judge_answer}
use Rattle.record_c.specs.declared.DayC.{DayC}
use Rattle.record_c.specs.Records.{marks_fit, day_of}
use Rattle.flat.specs.Flat.{flat_hour, refused_hour, flat_judged, refused_judged, flat_closing, refused_closing}

-- A record in which `closed` is neither 0 nor 1 is turned away by 2, and comes back as it was given.
abbrev pub OddMarkRefused : Type 0
OddMarkRefused =
    (d : DayC) → marks_fit d ≡ false
    → ((t : List ℤ) (g : Hour) → flat_hour d (hour_answer (day_of d) t g) ≡ refused_hour d 2)
    × ((t : List ℤ) (g : Hour) (lent : List ℤ) → flat_hour d (preview_answer (day_of d) t g lent) ≡ refused_hour d 2)
    × ((t : List ℤ) (g : Hour) (qs : List ℤ) → flat_judged d (judge_answer (day_of d) t g qs) ≡ refused_judged d 2)
    × ((t : List ℤ) (g : Closing) → flat_closing d (closing_answer (day_of d) t g) ≡ refused_closing d 2)

-- Document 02, of a preview: "the record comes back unchanged", accepted or refused.
abbrev pub PreviewKeepsRecord : Type 0
PreviewKeepsRecord = (d : DayC) (t : List ℤ) (g : Hour) (lent : List ℤ) → (flat_hour d (preview_answer (day_of d) t g lent)).day ≡ d

-- Document 02, of the judge: "the record comes back unchanged", accepted or refused.
abbrev pub JudgeKeepsRecord : Type 0
JudgeKeepsRecord = (d : DayC) (t : List ℤ) (g : Hour) (qs : List ℤ) → (flat_judged d (judge_answer (day_of d) t g qs)).day ≡ d

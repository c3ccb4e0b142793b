-- Case A's text and the line of a refusal, which proofs/Examples.antt computes. Assumes nothing.
use Rattle.std.specs.Prelude.{◌≡◌, [], ◌∷◌, pos, negsuc}
use Prim.Native.String.{String}
use Rattle.text.specs.Bytes.{bytes}
use Rattle.report.specs.Text.{refused_line, hour_text}

-- document 01's case A: its output, whole
abbrev pub case_a_output : String
case_a_output = "g,before,q,money,after\r\n0,20000000,3333333,66666660000,16666667\r\n1,10000000,1666667,33333340000,8333333\r\n2,-3000000,0,0,-3000000\r\n"

abbrev pub CaseAShown : Type 0
CaseAShown =
    hour_text
    (pos 20_000_000 ∷ pos 10_000_000 ∷ negsuc 2_999_999 ∷ [])
    (pos 3_333_333 ∷ pos 1_666_667 ∷ pos 0 ∷ [])
    (pos 66_666_660_000 ∷ pos 33_333_340_000 ∷ pos 0 ∷ [])
    (pos 16_666_667 ∷ pos 8_333_333 ∷ negsuc 2_999_999 ∷ [])
    ≡ bytes case_a_output

abbrev pub RefusalShown : Type 0
RefusalShown = refused_line 14 ≡ bytes "refused,14\r\n"

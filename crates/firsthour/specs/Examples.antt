-- Document 01's case A from its input to its output, and inputs that are refused, which proofs/Examples.antt computes. Assumes nothing.
use Rattle.std.specs.Prelude.{◌≡◌}
use Prim.Native.String.{String}
use Rattle.text.specs.Bytes.{bytes}
use Rattle.file_guarantees.specs.Examples.{case_a_text}
use Rattle.report.specs.Examples.{case_a_output}
use Rattle.firsthour.specs.Printed.{printed}

-- an input and what is printed for it
abbrev pub Prints : String → String → Type 0
Prints input output = printed (bytes input) ≡ bytes output

pub record ExamplesPrinted : Type 0 where
  pub case_a : Prints case_a_text case_a_output
  pub empty : Prints "" "refused,13\r\n"
  pub header_only : Prints "h,z,g,EEA,XEA,NCTTN,IPT\r\n" "refused,17\r\n"
  pub hour_2 : Prints "h,z,g,EEA,XEA,NCTTN,IPT\r\n2,H,0,0,0,0,0\r\n" "refused,6\r\n"
  pub zone_l : Prints "h,z,g,EEA,XEA,NCTTN,IPT\r\n1,L,0,13000001,0,0,0" "g,before,q,money,after\r\n0,13000001,1,20000,13000000\r\n"

-- Small files and what the definitions say of them: one list, which proofs/Examples.antt computes. Assumes nothing.
use Rattle.std.specs.Prelude.{ℕ, zero, suc, ◌+◌, ◌≡◌, List, [], ◌∷◌, ◌++◌, map, ℤ, pos, negsuc, replicate, Ok}
use Prim.Native.String.{String}
use Rattle.integers.specs.Lists.{tabulate}
use Rattle.text.specs.Bytes.{bytes}
use Rattle.text.specs.Decimals.{digits}
use Rattle.allocation_row.specs.declared.Row.{Row}
use Rattle.allocation_row.specs.declared.FileCause.TheVariants.{Lists, Header, Form, Field, Turn, NoLine}
use Rattle.allocation_lines.specs.Turns.{File, refused, read}
use Rattle.allocation_file.specs.File.{header, outcome, answer_of, list_of}

-- a file, the number of places of each list that is lent with it, and the outcome
pub record Example : Type 0 where
  pub file : List ℕ
  pub places : ℕ
  pub says : File

-- the outcome by the definitions, with lists of zeros
abbrev pub computed : Example → File
computed e =
    let xs = replicate e.places (pos 0) in
    outcome e.file xs xs xs xs

-- lists of 128 places; a file as it is, and with the header before it
abbrev pub whole : String → File → Example
whole t f = record { file = bytes t; places = 128; says = f }

abbrev pub after : String → File → Example
after t f = record { file = header ++ bytes t; places = 128; says = f }

-- a row by its seven values, in the file's order
abbrev pub row : ℕ → ℕ → ℕ → ℤ → ℤ → ℤ → ℤ → Row
row h z g a b c d = record { hour = h; zone = z; place = g; entry = a; exit = b; title = c; pooling = d }

-- ---- files of many lines: n lines from place k on, each of hour 24, zone L and no amounts
unfoldable pub lines_from : ℕ → ℕ → List ℕ
lines_from k zero = []
lines_from k (suc n) = bytes "24,L," ++ digits k ++ bytes ",0,0,0,0\r\n" ++ lines_from (k + 1) n

-- 128 such lines and a text after them
abbrev pub full : String → File → Example
full t f = record { file = header ++ lines_from 0 128 ++ bytes t; places = 128; says = f }

full_rows : List Row
full_rows = tabulate (λ k. row 24 1 k (pos 0) (pos 0) (pos 0) (pos 0)) 128

-- document 01's case A
abbrev pub case_a_text : String
case_a_text = "h,z,g,EEA,XEA,NCTTN,IPT\r\n1,H,0,30000000,-10000000,0,0\r\n1,H,1,15000000,-5000000,0,0\r\n1,H,2,2000000,-5000000,0,0\r\n"

-- ---- the list
unfoldable pub examples : List Example
unfolding full_rows
examples =
    -- files that are read: case A; a last line that lacks CR LF; the largest and the least numbers; 128 lines
    whole case_a_text
    (read 1 0
    (row 1 0 0 (pos 30000000) (negsuc 9999999) (pos 0) (pos 0)
    ∷ row 1 0 1 (pos 15000000) (negsuc 4999999) (pos 0) (pos 0)
    ∷ row 1 0 2 (pos 2000000) (negsuc 4999999) (pos 0) (pos 0) ∷ []))
    ∷ after "24,L,0,1,-1,20,-20\r\n24,L,1,0,0,0,0"
    (read 24 1 (row 24 1 0 (pos 1) (negsuc 0) (pos 20) (negsuc 19) ∷ row 24 1 1 (pos 0) (pos 0) (pos 0) (pos 0) ∷ []))
    ∷ after "999999999,H,0,999999999,-999999999,0,0" (read 999999999 0 (row 999999999 0 0 (pos 999999999) (negsuc 999999998) (pos 0) (pos 0) ∷ []))
    ∷ after "0,H,0,-1,1,0,0\r\n" (read 0 0 (row 0 0 0 (negsuc 0) (pos 1) (pos 0) (pos 0) ∷ []))
    ∷ full "" (read 24 1 full_rows)
    -- 12, before all other causes: lists of no, 127 and 129 places
    ∷ record { file = bytes "no header"; places = 0; says = refused Lists }
    ∷ record { file = header ++ bytes "1,H,0,0,0,0,0\r\n"; places = 127; says = refused Lists }
    ∷ record { file = header ++ bytes "1,H,0,0,0,0,0\r\n"; places = 129; says = refused Lists }
    -- 13: no bytes; a header that lacks its LF, its CR LF or its CR; one in other letters, or with another last letter; a blank before it; a byte order mark before it
    ∷ whole "" (refused Header)
    ∷ whole "h,z,g,EEA,XEA,NCTTN,IPT\r" (refused Header)
    ∷ whole "h,z,g,EEA,XEA,NCTTN,IPT" (refused Header)
    ∷ whole "h,z,g,EEA,XEA,NCTTN,IPT\n1,H,0,0,0,0,0\n" (refused Header)
    ∷ whole "h,z,g,eea,xea,ncttn,ipt\r\n1,H,0,0,0,0,0\r\n" (refused Header)
    ∷ whole "h,z,g,EEA,XEA,NCTTN,IPX\r\n1,H,0,0,0,0,0\r\n" (refused Header)
    ∷ whole " h,z,g,EEA,XEA,NCTTN,IPT\r\n1,H,0,0,0,0,0\r\n" (refused Header)
    ∷ record { file = 239 ∷ 187 ∷ 191 ∷ (header ++ bytes "1,H,0,0,0,0,0\r\n"); places = 128; says = refused Header }
    -- 17: the 25 bytes and nothing more
    ∷ after "" (refused NoLine)
    -- 14: an empty line alone, before, between and after others
    ∷ after "\r\n" (refused Form)
    ∷ after "\r\n1,H,0,0,0,0,0\r\n" (refused Form)
    ∷ after "1,H,0,0,0,0,0\r\n\r\n1,H,1,0,0,0,0\r\n" (refused Form)
    ∷ after "1,H,0,0,0,0,0\r\n\r\n" (refused Form)
    -- 14: a stray CR or LF within a line, as the last byte, and before a CR LF; lines that end in LF or in CR alone
    ∷ after "1,H,0,0,0\r,0,0\r\n" (refused Form)
    ∷ after "1,H,0,0,0\n,0,0\r\n" (refused Form)
    ∷ after "1,H,0,0,0,0,0\r" (refused Form)
    ∷ after "1,H,0,0,0,0,0\n" (refused Form)
    ∷ after "1,H,0,0,0,0,0\r\r\n" (refused Form)
    ∷ after "1,H,0,0,0,0,0\r\n\r" (refused Form)
    ∷ after "1,H,0,0,0,0,0\r\n\n" (refused Form)
    ∷ after "1,H,0,0,0,0,0\n1,H,1,0,0,0,0\n" (refused Form)
    -- 14: a quote mark; six fields; eight; eight by a comma at the end; the header once more is a line of seven fields, so 15
    ∷ after "1,\"H\",0,0,0,0,0\r\n" (refused Form)
    ∷ after "1,H,0,0,0,0\r\n" (refused Form)
    ∷ after "1,H,0,0,0,0,0,0\r\n" (refused Form)
    ∷ after "1,H,0,0,0,0,0,\r\n" (refused Form)
    ∷ after "h,z,g,EEA,XEA,NCTTN,IPT\r\n" (refused Field)
    -- 15: no digits; a field of no bytes, first, last and in between; ten digits
    ∷ after "x,H,0,0,0,0,0\r\n" (refused Field)
    ∷ after ",H,0,0,0,0,0\r\n" (refused Field)
    ∷ after "1,H,0,0,,0,0\r\n" (refused Field)
    ∷ after "1,H,0,0,0,0,\r\n" (refused Field)
    ∷ after "1000000000,H,0,0,0,0,0\r\n" (refused Field)
    ∷ after "1,H,0,0,-1000000000,0,0\r\n" (refused Field)
    -- 15: a needless zero; `-0`; a sign alone, twice, a `+`; a sign at h and at g
    ∷ after "01,H,0,0,0,0,0\r\n" (refused Field)
    ∷ after "1,H,00,0,0,0,0\r\n" (refused Field)
    ∷ after "1,H,0,0,-01,0,0\r\n" (refused Field)
    ∷ after "1,H,0,0,-0,0,0\r\n" (refused Field)
    ∷ after "1,H,0,0,-,0,0\r\n" (refused Field)
    ∷ after "1,H,0,0,--1,0,0\r\n" (refused Field)
    ∷ after "1,H,0,+1,0,0,0\r\n" (refused Field)
    ∷ after "-1,H,0,0,0,0,0\r\n" (refused Field)
    ∷ after "1,H,-0,0,0,0,0\r\n" (refused Field)
    -- 15: a blank, a TAB, a NUL, a byte above 127
    ∷ after "1,H,0, 1,0,0,0\r\n" (refused Field)
    ∷ after "1,H,0,1\t,0,0,0\r\n" (refused Field)
    ∷ after "1,H,0,1\0,0,0,0\r\n" (refused Field)
    ∷ record { file = header ++ bytes "1,H,0,0,0,0," ++ (200 ∷ []); places = 128; says = refused Field }
    -- amounts in MWh: `12.345`, `0.000`, `-0.005` and 1 MWh; the largest and the least; a file that mixes both forms, and a line
    ∷ after "1,H,0,12.345,0.000,-0.005,1.000\r\n" (read 1 0 (row 1 0 0 (pos 12345) (pos 0) (negsuc 4) (pos 1000) ∷ []))
    ∷ after "1,H,0,999999.999,-999999.999,0.999,-1.000" (read 1 0 (row 1 0 0 (pos 999999999) (negsuc 999999998) (pos 999) (negsuc 999) ∷ []))
    ∷ after "2,L,0,12345,-12345,0,0\r\n2,L,1,12.345,-12345,0,0.000\r\n"
    (read 2 1 (row 2 1 0 (pos 12345) (negsuc 12344) (pos 0) (pos 0) ∷ row 2 1 1 (pos 12345) (negsuc 12344) (pos 0) (pos 0) ∷ []))
    -- 15: `-0.000`; no digit before the point; none, one, two and four after it
    ∷ after "1,H,0,-0.000,0,0,0\r\n" (refused Field)
    ∷ after "1,H,0,.005,0,0,0\r\n" (refused Field)
    ∷ after "1,H,0,0,-.001,0,0\r\n" (refused Field)
    ∷ after "1,H,0,1.,0,0,0\r\n" (refused Field)
    ∷ after "1,H,0,1.5,0,0,0\r\n" (refused Field)
    ∷ after "1,H,0,0,0,1.23,0\r\n" (refused Field)
    ∷ after "1,H,0,0,0,0,1.2345\r\n" (refused Field)
    -- 15: a needless zero and seven digits before the point; a sign after it, a `+` and a second `-` before; two points; a point alone
    ∷ after "1,H,0,01.000,0,0,0\r\n" (refused Field)
    ∷ after "1,H,0,0,-00.005,0,0\r\n" (refused Field)
    ∷ after "1,H,0,1000000.000,0,0,0\r\n" (refused Field)
    ∷ after "1,H,0,1.-23,0,0,0\r\n" (refused Field)
    ∷ after "1,H,0,+1.000,0,0,0\r\n" (refused Field)
    ∷ after "1,H,0,--1.000,0,0,0\r\n" (refused Field)
    ∷ after "1,H,0,1..000,0,0,0\r\n" (refused Field)
    ∷ after "1,H,0,1.000.000,0,0,0\r\n" (refused Field)
    ∷ after "1,H,0,.,0,0,0\r\n" (refused Field)
    -- 15: a point at h and at g; 14: a comma for the point, which makes eight fields
    ∷ after "1.000,H,0,0,0,0,0\r\n" (refused Field)
    ∷ after "1,H,0.000,0,0,0,0\r\n" (refused Field)
    ∷ after "1,H,0,1,234,0,0,0\r\n" (refused Form)
    -- 15: another letter, a small letter, two letters, none, the zone's number
    ∷ after "1,X,0,0,0,0,0\r\n" (refused Field)
    ∷ after "1,h,0,0,0,0,0\r\n" (refused Field)
    ∷ after "1,HL,0,0,0,0,0\r\n" (refused Field)
    ∷ after "1,,0,0,0,0,0\r\n" (refused Field)
    ∷ after "1,0,0,0,0,0,0\r\n" (refused Field)
    -- 16: another h; another z; g that starts at 1, skips a place, or stays
    ∷ after "1,H,0,0,0,0,0\r\n2,H,1,0,0,0,0\r\n" (refused Turn)
    ∷ after "1,H,0,0,0,0,0\r\n1,L,1,0,0,0,0\r\n" (refused Turn)
    ∷ after "1,H,1,0,0,0,0\r\n" (refused Turn)
    ∷ after "1,H,0,0,0,0,0\r\n1,H,2,0,0,0,0\r\n" (refused Turn)
    ∷ after "1,H,0,0,0,0,0\r\n1,H,0,0,0,0,0\r\n" (refused Turn)
    -- the 129th line: 16 where it is right in itself, else 14 or 15
    ∷ full "24,L,128,0,0,0,0\r\n" (refused Turn)
    ∷ full "24,L,128,0,0,0\r\n" (refused Form)
    ∷ full "24,L,128,x,0,0,0\r\n" (refused Field)
    -- within one line: 14 of a later field before 15 of an earlier one; 15 of a later field before 16
    ∷ after "x,H,0,0,0,0,\"\r\n" (refused Form)
    ∷ after "1,H,5,0,0,0,x\r\n" (refused Field)
    -- lines in turn: 16 in line 1 before 14 in line 2; 15 in line 2 before 14 in line 3
    ∷ after "1,H,1,0,0,0,0\r\n\r\n" (refused Turn)
    ∷ after "1,H,0,0,0,0,0\r\n1,H,1,x,0,0,0\r\n\r\n" (refused Field) ∷ []

-- each is computed to what it says
abbrev pub ExamplesComputed : Type 0
ExamplesComputed = map computed examples ≡ map (λ e. e.says) examples

-- ---- case A's call, with lists of sevens lent: the answer, and the lists after it
abbrev pub sevens : ℕ → List ℤ
sevens n = replicate n (pos 7)

abbrev pub case_a : File
case_a = outcome (bytes case_a_text) (sevens 128) (sevens 128) (sevens 128) (sevens 128)

pub record CaseA : Type 0 where
  pub answer : answer_of case_a ≡ Ok (record { hour = pos 1; zone = pos 0; lines = pos 3 })
  pub entries : list_of (λ r. r.entry) case_a (sevens 128) ≡ pos 30000000 ∷ pos 15000000 ∷ pos 2000000 ∷ sevens 125
  pub exits : list_of (λ r. r.exit) case_a (sevens 128) ≡ negsuc 9999999 ∷ negsuc 4999999 ∷ negsuc 4999999 ∷ sevens 125
  pub titles : list_of (λ r. r.title) case_a (sevens 128) ≡ pos 0 ∷ pos 0 ∷ pos 0 ∷ sevens 125
  pub poolings : list_of (λ r. r.pooling) case_a (sevens 128) ≡ pos 0 ∷ pos 0 ∷ pos 0 ∷ sevens 125

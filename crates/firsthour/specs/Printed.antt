-- What the program prints for its input. Assumes nothing.
use Rattle.std.specs.Prelude.{cond, List, map, ℕ, leb, pos, length}
use Rattle.allocation_row.specs.Causes.{number}
use Rattle.allocation_lines.specs.Turns.{File, refused, read}
use Rattle.allocation_file.specs.File.{file_of}
use Rattle.report.specs.Text.{refused_line}
use Rattle.hour_text.specs.Opened.{opened_new}

-- a file that is read, or refused
unfoldable pub of_file : File → List ℕ
of_file (refused cause) = refused_line (number cause)
of_file (read h z rows) =
    opened_new (pos h) (pos z) (map (λ r. r.entry) rows) (map (λ r. r.exit) rows) (map (λ r. r.title) rows) (map (λ r. r.pooling) rows)

-- "reads a file of at most 65,536 bytes"; "A longer input prints `refused,14`."
abbrev pub input_most : ℕ
input_most = 65_536

unfoldable pub printed : List ℕ → List ℕ
printed input = cond (leb (length input) input_most) (of_file (file_of input)) (refused_line 14)

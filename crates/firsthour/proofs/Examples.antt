-- The examples, computed by the definitions. Assumes nothing.
use mathlib.Core.Path.{refl}
use Rattle.allocation_row.specs.Rows.{as_row}
use Rattle.allocation_file.specs.File.{file_of}
use Rattle.rules.specs.Compute.{rules}
use Rattle.text.specs.Bytes.{line_end}
use Rattle.text.specs.Decimals.{digits_in, digits, decimal, field}
use Rattle.report.specs.Text.{heading, user_line, refused_line, line_at, user_lines, hour_text}
use Rattle.hour_text.specs.Opened.{unless_refused, settled, terms_of, january_terms, with_defaults, opened, opened_new}
use Rattle.firsthour.specs.Printed.{of_file, printed}
use Rattle.firsthour.specs.Examples.{ExamplesPrinted}

pub examples-printed : ExamplesPrinted
unfolding
    as_row file_of rules digits_in digits decimal line_end heading field user_line
    refused_line line_at user_lines hour_text unless_refused settled terms_of january_terms with_defaults opened
    opened_new of_file printed
examples-printed = record { case_a = refl; empty = refl; header_only = refl; hour_2 = refl; zone_l = refl }

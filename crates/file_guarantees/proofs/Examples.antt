-- The examples, computed by the definitions. Assumes nothing.
use mathlib.Core.Path.{refl}
use Rattle.integers.specs.Lists.{every, tabulate}
use Rattle.text.specs.Decimals.{digits_in, digits}
use Rattle.allocation_row.specs.Rows.{as_row}
use Rattle.allocation_file.specs.File.{file_of}
use Rattle.file_guarantees.specs.Examples.{lines_from, examples, ExamplesComputed, CaseA}

pub examples-computed : ExamplesComputed
unfolding every tabulate digits_in digits as_row file_of lines_from examples
examples-computed = refl

pub case_a_lem : CaseA
unfolding every as_row file_of
case_a_lem = record { answer = refl; entries = refl; exits = refl; titles = refl; poolings = refl }

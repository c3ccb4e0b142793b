-- The examples, computed by the definitions. Assumes nothing.
use mathlib.Core.Path.{refl}
use Rattle.text.specs.Bytes.{line_end}
use Rattle.text.specs.Decimals.{digits_in, digits, decimal, field}
use Rattle.report.specs.Text.{heading, user_line, refused_line, line_at, user_lines, hour_text}
use Rattle.report.specs.Examples.{CaseAShown, RefusalShown}

pub case_a_shown : CaseAShown
unfolding digits_in digits decimal line_end heading field user_line line_at user_lines hour_text
case_a_shown = refl

pub refusal_shown : RefusalShown
unfolding digits_in digits decimal line_end refused_line
refusal_shown = refl

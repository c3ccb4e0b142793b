-- The examples, computed by the definitions. Assumes nothing.
use mathlib.Core.Path.{refl}
use Rattle.integers.specs.Lists.{every, tabulate}
use Rattle.integers.specs.Ranges.{natural}
use Rattle.rules.specs.Limits.{users_fit, zone_fit}
use Rattle.text.specs.Bytes.{line_end}
use Rattle.text.specs.Decimals.{digits_in, digits, decimal}
use Rattle.allocation_text.specs.Text.{zone_by, field_texts, line_text}
use Rattle.allocation_writer.specs.Writer.{row_at, rows_of, ended, file_text, text_of}
use Rattle.allocation_writer.specs.Writer.{of_count, lists_fit, count_fit, nine_digits, hour_fit, amounts_short, numbers_fit, room_for, write_cause}
use Rattle.writer_guarantees.specs.Examples.{CaseAWritten, texts, TextsComputed, causes, CausesComputed}

pub case_a_written : CaseAWritten
unfolding tabulate natural line_end digits_in digits decimal field_texts line_text zone_by row_at rows_of ended file_text text_of
case_a_written = refl

pub texts-computed : TextsComputed
unfolding tabulate natural line_end digits_in digits decimal field_texts line_text zone_by row_at rows_of ended file_text text_of texts
texts-computed = refl

pub causes-computed : CausesComputed
unfolding every tabulate natural users_fit zone_fit line_end digits_in digits decimal field_texts line_text zone_by row_at rows_of ended file_text text_of of_count lists_fit count_fit nine_digits hour_fit amounts_short numbers_fit room_for write_cause causes
causes-computed = refl

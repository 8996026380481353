-- The cases of lines hold: both sides compute to the same lists.
-- Assumes nothing.
use mathlib.Core.Path.{refl}
use Rattle.bench_lines.specs.Numerals.{digit_value, all_digits, spelled_after, spelled, digit_for, digits_before, width_in, width, decimal_before}
use Rattle.bench_lines.specs.Line.{before, first_space, second_space, lid_text, tick_text, lsdu_text, all_hold, has_form, fields_of, read_line, hex_text, line_text}
use Rattle.bench_lines.specs.Text.{number_text, named_text, answer_text, heading_text, answer_line_text, totals_text}
use Rattle.bench_lines.specs.LineCases.{LineCasesHold}

pub line_cases_hold : LineCasesHold
unfolding digit_value all_digits spelled_after spelled digit_for digits_before width_in width decimal_before before first_space second_space lid_text tick_text lsdu_text all_hold has_form fields_of read_line hex_text line_text number_text named_text answer_text heading_text answer_line_text totals_text
line_cases_hold = record { printing = refl; reading = refl }

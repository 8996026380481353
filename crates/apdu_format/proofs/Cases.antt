-- Every case holds: both sides compute to the same list.
-- Assumes nothing.
use mathlib.Core.Path.{refl}
use Rattle.refusals.specs.Check.{first_of}
use Rattle.bits.specs.Bits.{digits, bits, number, octets}
use Rattle.apdu_format.specs.Table.{layout_of}
use Rattle.apdu_format.specs.Rules.{shape, begins, checks_of, present, times, content, brings, announced}
use Rattle.apdu_format.specs.Reading.{numbers_of, sum, need, fields_of, value_at, octet_of, beginning, fault_of, position_of, judged, step, through, run, runs, outcome, read_front, alone, read_message}
use Rattle.apdu_format.specs.Writing.{field_bits, fields_fit, bits_of, are_bits, fits, is_value, put_value, put_first, put, puts, written, none, in_range, encode, size, encoded_octets, write_refusal}
use Rattle.apdu_format.specs.Pictures.{picture, repeated, result, Hold}
use Rattle.apdu_format.specs.TableCases.{table_cases, TableCasesHold}
use Rattle.apdu_format.specs.RuleCases.{rule_cases, RuleCasesHold}
use Rattle.apdu_format.specs.ReadingCases.{reading_cases, ReadingCasesHold}
use Rattle.apdu_format.specs.WritingCases.{writing_cases, WritingCasesHold, result as writing_result}

pub table_cases_hold : TableCasesHold
unfolding TableCasesHold Hold table_cases picture result first_of digits bits number layout_of shape begins checks_of present times content brings announced numbers_of sum need fields_of value_at octet_of beginning fault_of position_of judged step through run runs outcome read_front alone read_message
table_cases_hold = refl

pub rule_cases_hold : RuleCasesHold
unfolding RuleCasesHold Hold rule_cases picture repeated result first_of digits bits number layout_of shape begins checks_of present times content brings announced numbers_of sum need fields_of value_at octet_of beginning fault_of position_of judged step through run runs outcome read_front alone read_message
rule_cases_hold = refl

pub reading_cases_hold : ReadingCasesHold
unfolding ReadingCasesHold Hold reading_cases picture repeated result first_of digits bits number layout_of shape begins checks_of present times content brings announced numbers_of sum need fields_of value_at octet_of beginning fault_of position_of judged step through run runs outcome read_front alone read_message
reading_cases_hold = refl

pub writing_cases_hold : WritingCasesHold
unfolding WritingCasesHold writing_cases picture repeated writing_result first_of digits bits number octets layout_of shape checks_of present times content brings announced numbers_of through field_bits fields_fit bits_of are_bits fits is_value put_value put_first put puts written none in_range encode size encoded_octets write_refusal
writing_cases_hold = refl

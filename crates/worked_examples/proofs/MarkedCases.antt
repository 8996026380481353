-- The marked cases hold: both sides compute to the same list.
-- Assumes nothing.
use mathlib.Core.Path.{refl}
use Rattle.refusals.specs.Check.{first_of, decided}
use Rattle.bits.specs.Bits.{digits, bits, number, field, octets}
use Rattle.bits.specs.Strings.{is_inside, string_at, copy_fits, copy_string}
use Rattle.header.specs.Header.{end_bit, header_length, counter_in, length_for, header_of, read_refusal, read_header, header_bits, header_octets}
use Rattle.apdu_format.specs.Table.{layout_of}
use Rattle.apdu_format.specs.Rules.{shape, begins, checks_of, present, times, content, brings, announced}
use Rattle.apdu_format.specs.Reading.{numbers_of, sum, need, fields_of, value_at, octet_of, beginning, fault_of, position_of, judged, step, through, run, runs, outcome, read_front, alone, read_message}
use Rattle.apdu_format.specs.Writing.{field_bits, fields_fit, bits_of, are_bits, fits, is_value, put_value, put_first, put, puts, written, none, in_range, encode, size, encoded_octets}
use Rattle.apdu.specs.Values.{ids_at, head_values, row_values, rows_values, set_request_values, get_request_values, get_response_values, response_values, values_of}
use Rattle.apdu.specs.Sound.{part_fits, parts_fit, closes, rows_sound, get_response_sound, sound, rows_present, rows_fit, well_formed}
use Rattle.apdu_reading.specs.Answers.{told, outcome_of}
use Rattle.apdu_writing.specs.Answer.{write_refusal, answered, write_answer, write_output}
use Rattle.directory.specs.Directory.{row_sound, each_sound, share_octet, clashes, apart_from, all_apart, sound_directory, index_of, known_in, row_of}
use Rattle.attributes.specs.Serving.{exact, denied, get_fault, get_faults, ids_from, get_status, value_of, values_in, attributes_at, rows_of, get_reply, get_refusal, writes, sent, too_long, getting, set_fault, set_faults, set_status, set_row, set_rows, set_reply, setting, served, carried, by_reading, requested}
use Rattle.worked_examples.specs.MarkedCases.{MarkedCasesHold, header_result, message_result, sent_of, request_result, result}

pub marked_cases_hold : MarkedCasesHold
unfolding MarkedCasesHold first_of decided digits bits number field octets end_bit header_length counter_in length_for header_of read_refusal read_header header_bits header_octets header_result layout_of shape begins checks_of present times content brings announced numbers_of sum need fields_of value_at octet_of beginning fault_of position_of judged step through run runs outcome read_front alone read_message field_bits fields_fit bits_of are_bits fits is_value put_value put_first put puts written encode size encoded_octets message_result result is_inside string_at copy_fits copy_string none in_range ids_at head_values row_values rows_values set_request_values get_request_values get_response_values response_values values_of part_fits parts_fit closes rows_sound get_response_sound sound rows_present rows_fit well_formed told outcome_of write_refusal answered write_answer write_output row_sound each_sound share_octet clashes apart_from all_apart sound_directory index_of known_in row_of exact denied get_fault get_faults ids_from get_status value_of values_in attributes_at rows_of get_reply get_refusal writes sent too_long getting set_fault set_faults set_status set_row set_rows set_reply setting served carried by_reading requested sent_of request_result
marked_cases_hold = refl

-- The cases of soundness hold: both sides compute to the same list.
-- Assumes nothing.
use mathlib.Core.Path.{refl}
use Rattle.refusals.specs.Check.{first_of}
use Rattle.bits.specs.Bits.{digits, bits, number, octets}
use Rattle.bits.specs.Strings.{is_inside}
use Rattle.apdu_format.specs.Table.{layout_of}
use Rattle.apdu_format.specs.Rules.{shape, checks_of, present, times, content, brings, announced}
use Rattle.apdu_format.specs.Reading.{numbers_of, fields_of, value_at, through}
use Rattle.apdu_format.specs.Writing.{field_bits, fields_fit, bits_of, are_bits, fits, is_value, put_value, put_first, put, puts, written, none, in_range}
use Rattle.apdu.specs.Values.{ids_at, head_values, row_values, rows_values, entry_values, entry_rows, entries_values, rows_of, request_values, action_response_values, response_values, set_request_values, get_request_values, get_response_values, bst_values, vst_values, values_of}
use Rattle.apdu.specs.Sound.{part_fits, parts_fit, closes, rows_sound, container_sound, entry_sound, entries_sound, request_sound, action_response_sound, set_request_sound, get_request_sound, get_response_sound, bst_sound, vst_sound, sound, count_if, rows_present, rows_fit, well_formed}
use Rattle.apdu.specs.SoundCases.{SoundCasesHold}

pub sound_cases_hold : SoundCasesHold
unfolding first_of digits bits number octets is_inside layout_of shape checks_of present times content brings announced numbers_of fields_of value_at through field_bits fields_fit bits_of are_bits fits is_value put_value put_first put puts written none in_range ids_at head_values row_values rows_values entry_values entry_rows entries_values rows_of request_values action_response_values response_values set_request_values get_request_values get_response_values bst_values vst_values values_of part_fits parts_fit closes rows_sound container_sound entry_sound entries_sound request_sound action_response_sound set_request_sound get_request_sound get_response_sound bst_sound vst_sound sound count_if rows_present rows_fit well_formed
sound_cases_hold = refl

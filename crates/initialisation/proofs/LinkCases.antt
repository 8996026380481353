-- The cases of the link hold: both sides compute to the same lists.
-- Assumes nothing.
use Rattle.std.proofs.Common.{refl}
use Rattle.refusals.specs.Check.{first_of}
use Rattle.bits.specs.Bits.{digits, bits, number, field, octets}
use Rattle.bits.specs.Strings.{is_inside, string_at}
use Rattle.apdu_format.specs.Table.{layout_of}
use Rattle.apdu_format.specs.Rules.{shape, checks_of, brings, announced, present, times, content}
use Rattle.apdu_format.specs.Reading.{numbers_of, through, fields_of, value_at}
use Rattle.apdu_format.specs.Writing.{field_bits, fields_fit, bits_of, are_bits, fits, is_value, put_value, put_first, put, puts, written, none, in_range, encode, size, encoded_octets}
use Rattle.apdu.specs.Values.{head_values, rows_values, entry_values, entries_values, entry_rows, rows_of, ids_at, bst_values, vst_values, values_of}
use Rattle.apdu.specs.Sound.{entry_sound, entries_sound, bst_sound, sound, rows_present, rows_fit, well_formed}
use Rattle.initialisation.specs.Link.{changed, release_of, tick_of}
use Rattle.initialisation.specs.Elements.{element_sound, none_has, each_sound, elements_sound}
use Rattle.initialisation.specs.Offer.{first_served, profile_of, offered_by, element_of, pair_of}
use Rattle.initialisation.specs.Known.{elapsed}
use Rattle.initialisation.specs.Hearing.{configuration_in_range, records_in_range, hearing_refusal, sent_for, vst_for, heard_of}
use Rattle.initialisation.specs.LinkCases.{LinkCasesHold}

pub link_cases_hold : LinkCasesHold
unfolding heard_of hearing_refusal first_of elements_sound each_sound element_sound none_has is_inside records_in_range well_formed in_range written puts through put put_first put_value is_value fits fields_fit are_bits shape checks_of numbers_of value_at fields_of brings present layout_of announced times content none values_of bst_values vst_values head_values rows_values entries_values entry_values entry_rows rows_of ids_at sound rows_present rows_fit bst_sound entries_sound entry_sound configuration_in_range sent_for profile_of first_served string_at offered_by pair_of element_of elapsed vst_for encode encoded_octets size octets number field bits_of field_bits digits bits release_of tick_of changed
link_cases_hold = record { bsts = refl; changes = refl; numbers = λ n. refl }

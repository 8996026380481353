-- The cases of bits hold: both sides compute to the same list.
-- Assumes nothing.
use Prim.Native.Nat.{◌<◌}
use mathlib.Core.Path.{refl}
use native.Mathlib.Omega.{arith}
use Rattle.bits.specs.Bits.{digits, bits, number, field, octets, put_bits, read_field, field_fits, write_field}
use Rattle.bits.specs.Strings.{is_inside, string_at, same_octets, same_string, copy_fits, copy_string, write_fits, write_string, each_first_bit_clear, first_bits_clear}
use Rattle.bits.specs.BitCases.{BitCasesHold}
use Rattle.bits.proofs.Laws.{below_nil, below_cons}

pub bit_cases_hold : BitCasesHold
unfolding digits bits number field octets put_bits read_field field_fits write_field is_inside string_at same_octets same_string copy_fits copy_string write_fits write_string each_first_bit_clear first_bits_clear
bit_cases_hold = record {
  are_octets = below_cons (omega arith) (below_cons (omega arith) (below_nil (omega arith)));
  not_octets = λ b. let h : 256 < 256 = b.each 1 in omega arith;
  all_bits = below_cons (omega arith) (below_cons (omega arith) (below_nil (omega arith)));
  not_bits = λ b. let h : 2 < 2 = b.each 1 in omega arith;
  low_bits = refl;
  bits_of = refl;
  octets_given = refl;
  numbers = refl;
  fields = refl;
  fields_written = refl;
  inside = refl;
  strings = refl;
  same = refl;
  same_strings = refl;
  copies = refl;
  strings_written = refl;
  clear = refl;
}

-- The cases of headers hold: both sides compute to the same list. What is not so is refuted by the one equation that fails.
-- Assumes nothing.
use Prim.Native.Nat.{ℕ, ◌≤◌}
use mathlib.Core.Path.{◌≡◌, refl, ap}
use mathlib.Core.Bool.{false}
use mathlib.Core.List.{List, [], ◌∷◌}
use native.Mathlib.Omega.{arith}
use lib.ListN.{length, get_or}
use Rattle.refusals.specs.Check.{first_of, Answer, refused, accepted, decided}
use Rattle.bits.specs.Bits.{digits, bits, number, field, octets}
use Rattle.header.specs.Header.{end_bit, header_length, counter_in, length_for, header_of, read_refusal, read_header, header_bits, header_octets, write_refusal, write_header, output_after}
use Rattle.header.proofs.Writing.{accepted_is}
use Rattle.header.specs.HeaderCases.{made, HeaderCasesHold}

-- the octets of an accepted answer, and 0 for a refusal
octets_in : Answer ℕ → ℕ
octets_in (refused k) = 0
octets_in (accepted n) = n

Equal : ℕ → ℕ → Type 0
Equal m n = m ≡ n

first : List ℕ → ℕ
first l = get_or l 0 0

second : List ℕ → ℕ
second l = get_or l 1 0

pub header_cases_hold : HeaderCasesHold
unfolding first_of decided digits bits number field octets end_bit header_length counter_in length_for header_of read_refusal read_header header_bits header_octets write_refusal write_header output_after octets_in Equal first second
header_cases_hold = record {
  reading = refl;
  writing = refl;
  reading_answers = refl;
  writing_answers = refl;
  again = record { inside = omega arith; answer = refl; same = refl };
  again_refused = record { inside = omega arith; answer = refl; same = refl };
  not_inside = λ r. let e : 2 ≤ 1 = r.inside in omega arith;
  not_in_range = λ r. let e : Equal 0 1 = ap octets_in r.answer in omega arith;
  not_same = λ r. let e : Equal 0x91 0x97 = ap first r.same in omega arith;
  holding = record { output = 7 ∷ 7 ∷ 0xEE ∷ []; answer = refl; is = refl };
  not_in_three = λ w. let e : Equal 2 3 = (accepted_is (made false 2 4) (length w.output) 3 w.answer).1 in omega arith;
  not_another = λ w. let e : Equal 9 11 = ap second w.is in omega arith;
}

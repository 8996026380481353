-- The cases of fragment calls hold: both sides compute to the same list. What is not so is refuted by the one equation that fails.
-- Assumes nothing.
use Prim.Native.Nat.{ℕ, ◌<◌}
use mathlib.Core.Path.{◌≡◌, refl, ap}
use mathlib.Core.Bool.{false≢true}
use mathlib.Core.List.{List}
use native.Mathlib.Omega.{arith}
use lib.ListN.{get_or}
use lib.Count.{ones, count_trailing_zeros}
use Rattle.refusals.specs.Check.{first_of, Answer, refused, accepted}
use Rattle.bits.specs.Bits.{digits, bits, number, field}
use Rattle.header.specs.Header.{end_bit, header_length, counter_in, length_for, header_of, read_refusal}
use Rattle.slots.specs.declared.Slot.{Slot}
use Rattle.slots.specs.declared.Table.{Table}
use Rattle.slots.specs.Slots.{total, bit_at, each_sound, busy_slots, none_shares, no_two_share, is_sound, index_of, word_of}
use Rattle.reassembly.specs.declared.Change.{Change}
use Rattle.reassembly.specs.Checks.{payload_of, fragment_in}
use Rattle.reassembly.specs.Engine.{Taken, facts_in, change_taken, fragment_taken, fragment_refusal, fragment_of, change_of}
use Rattle.reassembly.specs.Ledger.{joined}
use Rattle.reassembly.specs.FragmentCases.{FragmentCasesHold}

Equal : ℕ → ℕ → Type 0
Equal m n = m ≡ n

-- the number of a refusal, and 0 for an accepted answer
refused_with : Answer Taken → ℕ
refused_with (refused number) = number
refused_with (accepted taken) = 0

refusing_with : Answer Change → ℕ
refusing_with (refused number) = number
refusing_with (accepted change) = 0

busy_in : Table → ℕ
busy_in table = table.busy

tick_in : Slot → ℕ
tick_in slot = slot.tick

first : List ℕ → ℕ
first l = get_or l 0 0

second : List ℕ → ℕ
second l = get_or l 1 0

pub fragment_cases_hold : FragmentCasesHold
unfolding ones count_trailing_zeros first_of digits bits number field end_bit header_length counter_in length_for header_of read_refusal total bit_at each_sound busy_slots none_shares no_two_share is_sound index_of word_of payload_of fragment_in facts_in change_taken fragment_taken fragment_refusal fragment_of change_of joined Equal refused_with refusing_with busy_in tick_in first second
fragment_cases_hold = record {
  refusing_first = refl;
  highest_counter = refl;
  changing = refl;
  parts = refl;
  taking = refl;
  call_refused = refl;
  answering = refl;
  reporting = refl;
  sweeps_reporting = refl;
  changed = refl;
  result = record { answer_is = refl; table_is = refl; store_is = refl; output_is = refl };
  not_answer = λ g. let e : Equal 2 1 = ap refused_with g.answer_is in omega arith;
  not_table = λ g. let e : Equal 0 1 = ap busy_in g.table_is in omega arith;
  not_store = λ g. let e : Equal 9 0xAA = ap first g.store_is in omega arith;
  not_output = λ g. let e : Equal 0xAA 9 = ap first g.output_is in omega arith;
  change_result = record { change_is = refl; store_is = refl; output_is = refl };
  not_change = λ g. let e : Equal 2 1 = ap refusing_with g.change_is in omega arith;
  not_changed = λ g. let e : Equal 0 1 = ap refusing_with g.change_is in omega arith;
  not_change_store = λ g. let e : Equal 9 0xAA = ap first g.store_is in omega arith;
  not_change_output = λ g. let e : Equal 0xAA 9 = ap first g.output_is in omega arith;
  holds = record { inside = omega arith; busy = refl; slot = refl; octets = refl };
  not_busy = λ h. false≢true h.busy;
  not_tick = λ h. let e : Equal 10 11 = ap tick_in h.slot in omega arith;
  not_octets = λ h. let e : Equal 0xBB 0xBC = ap second h.octets in omega arith;
  not_slot_8 = λ h. let e : 8 < 8 = h.inside in omega arith;
  not_balanced = λ d. let e : Equal 0 2 = d.balance in omega arith;
  not_zero = λ d. let e : Equal 5 0 = ap tick_in (d.others_free 7 (omega arith) refl) in omega arith;
}

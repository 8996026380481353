-- The cases of tables hold: both sides compute to the same list. What is not so is refuted by the one equation that fails.
-- Assumes nothing.
use Rattle.std.proofs.Common.{◌≡◌, ℕ, refl, ap, arith}
use lib.Count.{ones, count_trailing_zeros}
use Rattle.refusals.specs.Check.{first_of, Answer, refused, accepted}
use Rattle.slots.specs.declared.Table.{Table}
use Rattle.slots.specs.Slots.{bit_at, each_sound, busy_slots, none_shares, no_two_share, is_sound, index_of, word_of, total, held_for, held_in}
use Rattle.slots.specs.Sweep.{freed, dropped_by, swept_by, expiry_of, release_of}
use Rattle.slots.specs.SlotCases.{SlotCasesHold}

Equal : ℕ → ℕ → Type 0
Equal m n = m ≡ n

-- the octets of an accepted answer, and 0 for a refusal
octets_in : Answer ℕ → ℕ
octets_in (refused number) = 0
octets_in (accepted octets) = octets

busy_in : Table → ℕ
busy_in table = table.busy

pub slot_cases_hold : SlotCasesHold
unfolding ones count_trailing_zeros first_of bit_at each_sound busy_slots none_shares no_two_share is_sound index_of word_of total held_for held_in freed dropped_by swept_by expiry_of release_of Equal octets_in busy_in
slot_cases_hold = record {
  soundly = refl;
  counting = refl;
  bits = refl;
  empty = refl;
  word = refl;
  finding = refl;
  holding = refl;
  sweeping = refl;
  answering = refl;
  expiry = record { answer_is = refl; table_is = refl };
  not_expiry_of_9 = λ g. let e : Equal 9 8 = ap octets_in g.answer_is in omega arith;
  not_expiry_kept = λ g. let e : Equal 13 8 = ap busy_in g.table_is in omega arith;
  release = record { answer_is = refl; table_is = refl };
  not_release_of_9 = λ g. let e : Equal 9 8 = ap octets_in g.answer_is in omega arith;
  not_release_kept = λ g. let e : Equal 13 8 = ap busy_in g.table_is in omega arith;
}

-- What a fragment call answers and leaves (01, "Joining", second paragraph): the answer, the table, and every octet of store and output.
-- Assumes nothing.
use Rattle.std.specs.Prelude.{ℕ, ◌+◌, ◌*◌, ◌≡◌, Bool, not, List, ◌++◌, length, get_or, take, drop, set, eqb, Result, Ok, Err}
use Rattle.std.proofs.Math.Seq.{paste}
use Rattle.refusals.specs.Check.{pick, first_of, Answer, refused, accepted}
use Rattle.refusals.specs.declared.Refusal.{Refusal}
use Rattle.refusals.specs.Refusal.{number_of, answer_of}
use Rattle.slots.specs.declared.Slot.{Slot}
use Rattle.slots.specs.declared.Table.{Table}
use Rattle.slots.specs.Slots.{slot_octets, free, is_busy, index_of, is_full, lowest_free, table_of, is_sound}
use Rattle.reassembly.specs.declared.Accepted.{Accepted}
use Rattle.reassembly.specs.declared.Accepted.TheVariants.{Held, Whole}
use Rattle.reassembly.specs.declared.Change.{Change}
use Rattle.reassembly.specs.Checks.{Facts, fragment_in, payload_of, fragment_checks}

-- what an accepted fragment call answers: the message is held or whole, with its octets; and the octets dropped
pub data Taken : Type 0 where
  held : (octets dropped : ℕ) → Taken
  whole : (octets dropped : ℕ) → Taken

-- a call's answer, and the table, the store and the output after it
pub record Outcome : Type 0 where
  pub answer : Answer Taken
  pub table : Table
  pub store : List ℕ
  pub output : List ℕ

-- the octets with those of `part` from an index on, and every other as it was
abbrev pub put_at : (octets : List ℕ) → (at : ℕ) → (part : List ℕ) → List ℕ
put_at octets at part = paste octets at part (length part)

-- the pair's slot, or a free one
abbrev pub slot_for : ℕ → ℕ → Table → Slot
slot_for lid number table = get_or table.slots (index_of lid number table.slots) free

-- the facts of a pair, as its slot and the table tell them
abbrev pub facts_from : Slot → Table → Facts
facts_from slot table = record { is_open = is_busy slot; expected = slot.next; held = slot.held; full = is_full table }

unfoldable pub facts_in : ℕ → ℕ → Table → Facts
facts_in lid number table = facts_from (slot_for lid number table) table

-- the place of a slot's part in the store
abbrev pub part_at : ℕ → ℕ
part_at index = slot_octets * index

-- 01's values for each case of an accepted fragment, and its number for a refusal
abbrev pub taken_of : Accepted → Taken
taken_of (Held octets dropped) = held octets dropped
taken_of (Whole octets dropped) = whole octets dropped

abbrev pub fragment_answer : Result Accepted Refusal → Answer Taken
fragment_answer (Ok taken) = accepted (taken_of taken)
fragment_answer (Err refusal) = refused (number_of refusal)

-- What a fragment that no check refuses is answered, and the one slot that it changes. One that begins (counter 0) drops the octets that its pair held.
-- With the last mark the message is whole, and the pair's slot is freed: a pair that has none has an index past the eight.
-- Otherwise it is held, in the pair's slot or else the lowest free one.
unfoldable pub change_taken : (last begins : Bool) → (lid number tick octets : ℕ) → Table → Change
change_taken last begins lid number tick octets table =
    let index = index_of lid number table.slots in
    let slot = slot_for lid number table in
    let message = pick begins 0 slot.held + octets in
    let dropped = pick begins slot.held 0 in
    pick last
    (record { accepted = Whole message dropped; slot = free; index = index })
    (record {
      accepted = Held message dropped;
      slot = record { lid = lid; number = number; next = pick begins 1 (slot.next + 1); held = message; tick = pick begins tick slot.tick };
      index = pick (is_busy slot) index (lowest_free table);
    })

-- That change, and the octets: with the last mark what is held and the payload go to the front of the output; otherwise the payload goes to the
-- store behind what is held, in the part of the slot that changes.
unfoldable pub fragment_taken : (last begins : Bool) → (lid number tick : ℕ) → (payload : List ℕ) → Table → (store output : List ℕ) → Outcome
fragment_taken last begins lid number tick payload table store output =
    let change = change_taken last begins lid number tick (length payload) table in
    let before = pick begins 0 (slot_for lid number table).held in
    record {
      answer = accepted (taken_of change.accepted);
      table = table_of (set table.slots change.index change.slot);
      store = pick last store (put_at store (part_at change.index + before) payload);
      output = pick last (put_at output 0 (take before (drop (part_at change.index) store) ++ payload)) output;
    }

-- the number of the first check to hold, or 0
unfoldable pub fragment_refusal : (lid : ℕ) → (lsdu : List ℕ) → Table → (store output : ℕ) → ℕ
fragment_refusal lid lsdu table store output =
    let fragment = fragment_in lsdu in
    first_of (fragment_checks store output (not (is_sound table)) lid (length lsdu) fragment (facts_in lid fragment.number table))

-- a fragment call; a refusal changes nothing
unfoldable pub fragment_of : (lid tick : ℕ) → (lsdu : List ℕ) → Table → (store output : List ℕ) → Outcome
fragment_of lid tick lsdu table store output =
    let fragment = fragment_in lsdu in
    let number = fragment_refusal lid lsdu table (length store) (length output) in
    pick (eqb number 0)
    (fragment_taken fragment.last (eqb fragment.counter 0) lid fragment.number tick (payload_of lsdu) table store output)
    (record { answer = refused number; table = table; store = store; output = output })

-- the call's answer and the slot that it changes; a refusal changes none
unfoldable pub change_of : (lid tick : ℕ) → (lsdu : List ℕ) → Table → (store output : ℕ) → Answer Change
change_of lid tick lsdu table store output =
    let fragment = fragment_in lsdu in
    let number = fragment_refusal lid lsdu table store output in
    pick (eqb number 0)
    (accepted (change_taken fragment.last (eqb fragment.counter 0) lid fragment.number tick (length (payload_of lsdu)) table))
    (refused number)

-- the table that a change makes: its slot is set
abbrev pub changed_by : Table → Change → Table
changed_by table c = table_of (set table.slots c.index c.slot)

-- the contract of `fragment_change`: the change or the refusal r, and store and output afterwards
pub record ChangeGives (lid tick : ℕ) (lsdu : List ℕ) (table : Table) (store output : List ℕ) (r : Result Change Refusal) (store' output' : List ℕ) : Type 0 where
  pub change_is : answer_of r ≡ change_of lid tick lsdu table (length store) (length output)
  pub store_is : store' ≡ (fragment_of lid tick lsdu table store output).store
  pub output_is : output' ≡ (fragment_of lid tick lsdu table store output).output

-- the contract of `fragment`: the answer r, and table, store and output afterwards
pub record FragmentGives (lid tick : ℕ) (lsdu : List ℕ) (table : Table) (store output : List ℕ) (r : Result Accepted Refusal) (table' : Table) (store' output' : List ℕ) : Type 0 where
  pub answer_is : fragment_answer r ≡ (fragment_of lid tick lsdu table store output).answer
  pub table_is : table' ≡ (fragment_of lid tick lsdu table store output).table
  pub store_is : store' ≡ (fragment_of lid tick lsdu table store output).store
  pub output_is : output' ≡ (fragment_of lid tick lsdu table store output).output

-- The table of slots as 41 words that a caller lends: the busy word, then LID, number, next counter, octets held and tick of each slot, in order. Words of
-- another length are a table that is not sound (a busy word of all ones, which no sound table has), so that each call refuses it with 2 in 01's order.
-- Assumes nothing.
use Rattle.std.specs.Prelude.{ℕ, ◌+◌, ◌-◌, ◌^◌, ◌≡◌, false, List, [], ◌∷◌, ◌++◌, length, get_or, set, replicate, eqb}
use Rattle.std.proofs.lemmas.List.Edits.{sets}
use Rattle.refusals.specs.Check.{pick}
use Rattle.slots.specs.declared.Slot.{Slot}
use Rattle.slots.specs.declared.Table.{Table}
use Rattle.slots.specs.Slots.{slot_count, empty_table, table_of, is_sound}

abbrev pub table_length : ℕ
table_length = 41

-- ---- packing

abbrev pub slot_words : Slot → List ℕ
slot_words slot = slot.lid ∷ slot.number ∷ slot.next ∷ slot.held ∷ slot.tick ∷ []

unfoldable pub slots_words : List Slot → List ℕ
slots_words [] = []
slots_words (slot ∷ slots) = slot_words slot ++ slots_words slots

unfoldable pub table_words : Table → List ℕ
table_words table = table.busy ∷ slots_words table.slots

-- the words with a slot's from a place on
unfoldable pub slot_put : List ℕ → ℕ → Slot → List ℕ
slot_put words at slot = sets words at (slot_words slot)

-- the words after the table is put into them: only where there are 41
unfoldable pub table_after : Table → List ℕ → List ℕ
table_after table words = pick (eqb (length words) table_length) (table_words table) words

-- ---- unpacking

-- the slot whose words begin at a place
abbrev pub slot_in : List ℕ → ℕ → Slot
slot_in words at = record {
  lid = get_or words at 0;
  number = get_or words (at + 1) 0;
  next = get_or words (at + 2) 0;
  held = get_or words (at + 3) 0;
  tick = get_or words (at + 4) 0;
}

-- the eight slots of 41 words
unfoldable pub slots_in : List ℕ → List Slot
slots_in words =
    slot_in words 1
    ∷ slot_in words 6
    ∷ slot_in words 11
    ∷ slot_in words 16
    ∷ slot_in words 21
    ∷ slot_in words 26
    ∷ slot_in words 31
    ∷ slot_in words 36
    ∷ []

-- the table of 41 words
abbrev pub table_held : List ℕ → Table
table_held words = record { busy = get_or words 0 0; slots = slots_in words }

-- what words of another length are: free slots, and a busy word that no sound table has
abbrev pub no_table : Table
no_table = record { busy = 2 ^ 32 - 1; slots = empty_table.slots }

unfoldable pub table_in : List ℕ → Table
table_in words = pick (eqb (length words) table_length) (table_held words) no_table

-- ---- changing

-- the words after one slot is set and the busy word made anew: only where there are 41
unfoldable pub change_after : ℕ → Slot → List ℕ → List ℕ
change_after i slot words = table_after (table_of (set (table_in words).slots i slot)) words

-- ---- promises (proofs/TableLaws.antt proves each; `put_table` cites the second, `put_change` the third, `table_in` the others)

-- a table of eight slots is what its words are
unfoldable pub UnpackingTable : Type 0
UnpackingTable = (table : Table) → length table.slots ≡ slot_count → table_in (table_words table) ≡ table

-- so 41 words hold the table that was put into them
unfoldable pub UnpackingPutTable : Type 0
UnpackingPutTable =
    (table : Table) (words : List ℕ) → length table.slots ≡ slot_count → length words ≡ table_length → table_in (table_after table words) ≡ table

-- and after a change their table with that slot
unfoldable pub UnpackingChange : Type 0
UnpackingChange =
    (i : ℕ) (slot : Slot) (words : List ℕ) → length words ≡ table_length
    → table_in (change_after i slot words) ≡ table_of (set (table_in words).slots i slot)

-- words of another length are no sound table
unfoldable pub OtherTableLength : Type 0
OtherTableLength = (words : List ℕ) → (length words ≡ table_length → ⊥) → is_sound (table_in words) ≡ false

-- words that are all zero are the empty table
unfoldable pub FirstTable : Type 0
FirstTable = table_in (replicate table_length 0) ≡ empty_table

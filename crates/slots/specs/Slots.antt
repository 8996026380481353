-- The table of slots (01, "Joining", first paragraph). 01 calls a slot a place, a PDU number a message number, and reassembly joining.
-- The word of busy bits tells which slots are taken; slot i has bit i. Soundness is 01's sentence, part by part.
-- Assumes nothing.
use Rattle.std.specs.Prelude.{ℕ, zero, suc, ◌+◌, ◌-◌, ◌*◌, ◌/◌, ◌%◌, ◌^◌, Bool, true, false, not, ◌&&◌, List, [], ◌∷◌, ◌==◌, count_ones, nat_le, nat_lt, slice_index_or}
use Rattle.std.specs.Int.Count.{count_trailing_zeros}
use Rattle.refusals.specs.Check.{pick}
use Rattle.slots.specs.declared.Slot.{Slot}
use Rattle.slots.specs.declared.Table.{Table}

-- ---- limits

-- eight slots (H), each with 512 octets of the store
abbrev pub slot_count : ℕ
slot_count = 8

abbrev pub slot_octets : ℕ
slot_octets = 512

-- a LID is below 2^28
abbrev pub lid_bound : ℕ
lid_bound = 2 ^ 28

abbrev pub lid_in_range : ℕ → Bool
lid_in_range lid = nat_lt lid lid_bound

-- PDU numbers are 2 to 15: 0 and 1 are reserved
abbrev pub lowest_number : ℕ
lowest_number = 2

abbrev pub highest_number : ℕ
highest_number = 15

-- a LID and a PDU number that a slot may hold
abbrev pub pair_in_range : ℕ → ℕ → Bool
pair_in_range lid number = lid_in_range lid && nat_le lowest_number number && nat_le number highest_number

-- ---- free and busy

-- a free slot is all zero
abbrev pub free : Slot
free = record { lid = 0; number = 0; next = 0; held = 0; tick = 0 }

-- an empty table is all zero
abbrev pub empty_table : Table
empty_table = record { busy = 0; slots = free ∷ free ∷ free ∷ free ∷ free ∷ free ∷ free ∷ free ∷ [] }

-- the lowest bit of a word is set
abbrev pub low_bit : ℕ → Bool
low_bit word = word % 2 == 1

-- bit i of a word is set: slot i is busy
unfoldable pub bit_at : ℕ → ℕ → Bool
bit_at word zero = low_bit word
bit_at word (suc i) = bit_at (word / 2) i

-- ---- soundness

-- all of a slot's fields are zero
abbrev pub all_zero : Slot → Bool
all_zero slot = slot.lid == 0 && slot.number == 0 && slot.next == 0 && slot.held == 0 && slot.tick == 0

-- next counter at least 1, octets held between next counter and 512, and fields in range
abbrev pub busy_sound : Slot → Bool
busy_sound slot = nat_le 1 slot.next && nat_le slot.next slot.held && nat_le slot.held slot_octets && pair_in_range slot.lid slot.number

-- free slots (bit clear) are all zero, busy ones (bit set) as above, lowest bit first; and no bit is set above those of the slots
unfoldable pub each_sound : ℕ → List Slot → Bool
each_sound word [] = word == 0
each_sound word (slot ∷ slots) = pick (low_bit word) (busy_sound slot) (all_zero slot) && each_sound (word / 2) slots

-- the busy slots
unfoldable pub busy_slots : ℕ → List Slot → List Slot
busy_slots word [] = []
busy_slots word (slot ∷ slots) = pick (low_bit word) (slot ∷ busy_slots (word / 2) slots) (busy_slots (word / 2) slots)

-- no slot of a list shares LID and number with this one
unfoldable pub none_shares : Slot → List Slot → Bool
none_shares slot [] = true
none_shares slot (other ∷ slots) = not (other.lid == slot.lid && other.number == slot.number) && none_shares slot slots

-- no two of a list do
unfoldable pub no_two_share : List Slot → Bool
no_two_share [] = true
no_two_share (slot ∷ slots) = none_shares slot slots && no_two_share slots

-- a table is sound
unfoldable pub is_sound : Table → Bool
is_sound table = each_sound table.busy table.slots && no_two_share (busy_slots table.busy table.slots)

-- ---- counts over the word

-- the number of busy slots: the ones of the word
abbrev pub busy_count : Table → ℕ
busy_count table = count_ones table.busy

-- no slot is free: all eight are busy
abbrev pub is_full : Table → Bool
is_full table = nat_le slot_count (busy_count table)

-- the lowest free slot: the trailing zeros of the word's complement
abbrev pub lowest_free : Table → ℕ
lowest_free table = count_trailing_zeros 32 ((2 ^ 32 - 1) - table.busy)

-- ---- looking up and changing

-- a slot with a next counter above 0: in a sound table these are the busy ones
abbrev pub is_busy : Slot → Bool
is_busy slot = not (slot.next == 0)

-- busy with this LID and number
abbrev pub holds_pair : ℕ → ℕ → Slot → Bool
holds_pair lid number slot = is_busy slot && slot.lid == lid && slot.number == number

-- the index of the pair's slot, or past the last
unfoldable pub index_of : ℕ → ℕ → List Slot → ℕ
index_of lid number [] = 0
index_of lid number (slot ∷ slots) = pick (holds_pair lid number slot) 0 (index_of lid number slots + 1)

-- the word of these slots
abbrev pub bit_of : Bool → ℕ
bit_of true = 1
bit_of false = 0

unfoldable pub word_of : List Slot → ℕ
word_of [] = 0
word_of (slot ∷ slots) = bit_of (is_busy slot) + 2 * word_of slots

-- the table of these slots
abbrev pub table_of : List Slot → Table
table_of slots = record { busy = word_of slots; slots = slots }

-- ---- octets held

-- the sum of a number over a list
unfoldable pub total : {A : Type 0} → (A → ℕ) → List A → ℕ
total f [] = 0
total f (x ∷ xs) = f x + total f xs

abbrev pub held_of : Slot → ℕ
held_of slot = slot.held

-- the octets held of a pair, 0 if it is not open
unfoldable pub held_for : Table → ℕ → ℕ → ℕ
held_for table lid number = (slice_index_or table.slots (index_of lid number table.slots) free).held

-- the octets held in all, 0 for a table that is not sound
unfoldable pub held_in : Table → ℕ
held_in table = pick (is_sound table) (total held_of table.slots) 0

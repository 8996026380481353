-- What a slot holds of a message (01, "Joining", first paragraph): the slot's fields, and its part of the lent store.
-- Assumes nothing.
use Rattle.std.specs.Prelude.{ℕ, ◌<◌, ◌≡◌, Bool, true, List, length, get_or, take, drop}
use Rattle.slots.specs.declared.Slot.{Slot}
use Rattle.slots.specs.Slots.{slot_count, free, bit_at}
use Rattle.reassembly.specs.Engine.{part_at}
use Rattle.reassembly.specs.Ledger.{joined}
use Rattle.reassembly.specs.Runs.{Kept}

-- slot i, and whether its bit of the word is set
abbrev pub slot_at : Kept → ℕ → Slot
slot_at left i = get_or left.table.slots i free

abbrev pub busy_at : Kept → ℕ → Bool
busy_at left i = bit_at left.table.busy i

-- slot i holds the message of that pair, tick and payloads: it is busy, with the pair, the number of fragments as next counter, the octets
-- held and the opening tick; and the payloads in order at the front of its part of the store
pub record HoldsAt (left : Kept) (i lid number tick : ℕ) (payloads : List (List ℕ)) : Type 0 where
  pub inside : i < slot_count
  pub busy : busy_at left i ≡ true
  pub slot : slot_at left i ≡ record { lid = lid; number = number; next = length payloads; held = length (joined payloads); tick = tick }
  pub octets : take (length (joined payloads)) (drop (part_at i) left.store) ≡ joined payloads

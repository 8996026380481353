-- What the private functions test slot by slot, with a slot's next counter in the place of its bit. No public promise cites this file.
-- Assumes nothing.
use Rattle.std.specs.Prelude.{ℕ, ◌+◌, Bool, true, not, ◌&&◌, List, [], ◌∷◌}
use Rattle.refusals.specs.Check.{pick}
use Rattle.slots.specs.declared.Slot.{Slot}
use Rattle.slots.specs.declared.sweep.Sweep.{Sweep}
use Rattle.slots.specs.declared.sweep.Sweep.TheVariants.{Aged, OfLid}
use Rattle.slots.specs.Sweep.{aged_slot, of_lid}
use Rattle.slots.specs.Slots.{is_busy, all_zero, busy_sound, holds_pair, bit_of}

abbrev pub sound_slot : Slot → Bool
sound_slot slot = pick (is_busy slot) (busy_sound slot) (all_zero slot)

unfoldable pub all_sound : List Slot → Bool
all_sound [] = true
all_sound (slot ∷ slots) = sound_slot slot && all_sound slots

-- the slot `other` is busy with the pair of `slot`
abbrev pub shares_pair : Slot → Slot → Bool
shares_pair slot other = holds_pair slot.lid slot.number other

unfoldable pub none_like : Slot → List Slot → Bool
none_like slot [] = true
none_like slot (other ∷ slots) = not (shares_pair slot other) && none_like slot slots

-- both are busy, with the same pair
abbrev pub both_hold : Slot → Slot → Bool
both_hold slot other = is_busy slot && shares_pair slot other

-- no busy slot of the list shares this one's pair, if it is busy
abbrev pub alone : Slot → List Slot → Bool
alone slot slots = pick (is_busy slot) (none_like slot slots) true

unfoldable pub distinct : List Slot → Bool
distinct [] = true
distinct (slot ∷ slots) = alone slot slots && distinct slots

-- how many slots are busy, and the lowest that is not
unfoldable pub count_busy : List Slot → ℕ
count_busy [] = 0
count_busy (slot ∷ slots) = bit_of (is_busy slot) + count_busy slots

unfoldable pub first_free : List Slot → ℕ
first_free [] = 0
first_free (slot ∷ slots) = pick (is_busy slot) (first_free slots + 1) 0

-- which slots a sweep picks
abbrev pub picks : Sweep → Slot → Bool
picks (Aged tick limit) slot = aged_slot tick limit slot
picks (OfLid lid) slot = of_lid lid slot

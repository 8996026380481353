-- The contracts of the private functions `deliver`, `keep` and `accept`, in named parts: what each asks, and what it gives. No public promise
-- cites this file.
use Rattle.std.specs.Prelude.{◌≡◌, false, List, ◌++◌, ℕ, ◌+◌, ◌≤◌, ◌<◌, length, take, drop}
use Rattle.refusals.specs.Check.{pick}
use Rattle.slots.specs.declared.Slot.{Slot}
use Rattle.slots.specs.declared.Table.{Table}
use Rattle.slots.specs.Slots.{slot_count, slot_octets, free, is_busy, index_of, lowest_free}
use Rattle.reassembly.specs.declared.Arrival.{Arrival}
use Rattle.reassembly.specs.declared.Change.{Change}
use Rattle.reassembly.specs.declared.Accepted.TheVariants.{Held, Whole}
use Rattle.reassembly.specs.Checks.{store_octets, output_octets}
use Rattle.reassembly.specs.Engine.{put_at, part_at, slot_for, change_taken, fragment_taken}

-- ---- a last fragment

pub record DeliverAsks (index before : ℕ) (payload store output : List ℕ) : Type 0 where
  pub part_in : part_at index + before ≤ length store
  pub long : length store ≡ store_octets
  pub fits : before + length payload ≤ slot_octets
  pub room : output_octets ≤ length output

pub record DeliverGives (index before dropped : ℕ) (payload store output : List ℕ) (r : Change) (output' : List ℕ) : Type 0 where
  pub change_is : r ≡ record { accepted = Whole (before + length payload) dropped; slot = free; index = index }
  pub output_is : output' ≡ put_at output 0 (take before (drop (part_at index) store) ++ payload)

-- ---- any other

pub record KeepAsks (index before : ℕ) (payload store : List ℕ) : Type 0 where
  pub slot_within : index < slot_count
  pub long : length store ≡ store_octets
  pub fits : before + length payload ≤ slot_octets

pub record KeepGives (index : ℕ) (slot : Slot) (before dropped : ℕ) (payload store : List ℕ) (r : Change) (store' : List ℕ) : Type 0 where
  pub change_is : r ≡ record { accepted = Held (before + length payload) dropped; slot = slot; index = index }
  pub store_is : store' ≡ put_at store (part_at index + before) payload

-- ---- both

pub record AcceptAsks (a : Arrival) (slot : Slot) (lowest : ℕ) (payload store output : List ℕ) : Type 0 where
  pub long : length store ≡ store_octets
  pub room : output_octets ≤ length output
  pub part_in : part_at a.index + slot.held ≤ store_octets
  pub few : slot.next ≤ slot_octets
  pub fits : pick a.begins 0 slot.held + length payload ≤ slot_octets
  pub slot_within : a.last ≡ false → pick (is_busy slot) a.index lowest < slot_count

-- a table that has the pair's slot there, and its lowest free one
pub record Found (a : Arrival) (slot : Slot) (lowest : ℕ) (table : Table) : Type 0 where
  pub index_is : a.index ≡ index_of a.lid a.number table.slots
  pub slot_is : slot ≡ slot_for a.lid a.number table
  pub lowest_is : lowest ≡ lowest_free table

-- the change, and store and output afterwards
pub record AcceptGives (a : Arrival) (slot : Slot) (lowest : ℕ) (payload store output : List ℕ) (r : Change) (store' output' : List ℕ) : Type 0 where
  pub change_is : (table : Table) → Found a slot lowest table
      → r ≡ change_taken a.last a.begins a.lid a.number a.tick (length payload) table
  pub store_is : (table : Table) → Found a slot lowest table
      → store' ≡ (fragment_taken a.last a.begins a.lid a.number a.tick payload table store output).store
  pub output_is : (table : Table) → Found a slot lowest table
      → output' ≡ (fragment_taken a.last a.begins a.lid a.number a.tick payload table store output).output

-- What the code's fragment and facts of its pair mean for the checks. No public promise cites this file.
use Rattle.std.specs.Prelude.{Bool, true, false, Option, Some, None, Result, Ok, Err}
use Rattle.refusals.specs.declared.Refusal.{Refusal}
use Rattle.slots.specs.declared.Slot.{Slot}
use Rattle.slots.specs.Slots.{free}
use Rattle.reassembly.specs.declared.FragmentRead.{FragmentRead}
use Rattle.reassembly.specs.declared.PairFacts.{PairFacts}
use Rattle.reassembly.specs.Checks.{FragmentFields, Facts}

-- a fragment whose header is valid
abbrev pub fields_of : FragmentRead → FragmentFields
fields_of f = record { valid = true; last = f.header.last; number = f.header.number; counter = f.header.counter; octets = f.octets }

-- what reading an LSDU's fragment tells
abbrev pub fields_in : Result FragmentRead Refusal → FragmentFields
fields_in (Ok f) = fields_of f
fields_in (Err refusal) = record { valid = false; last = false; number = 0; counter = 0; octets = 0 }

-- the facts of a pair: of one that is not open no counter is expected and nothing is held
abbrev pub is_open : Option Slot → Bool
is_open (Some slot) = true
is_open None = false

abbrev pub slot_in : Option Slot → Slot
slot_in (Some slot) = slot
slot_in None = free

abbrev pub asked : PairFacts → Facts
asked facts = record { is_open = is_open facts.slot; expected = (slot_in facts.slot).next; held = (slot_in facts.slot).held; full = facts.full }

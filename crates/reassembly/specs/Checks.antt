-- The checks of a fragment call (01, "Joining" and rows 1 to 12 of the refusal table), as one ordered list of number and condition. The
-- engine and the ledger share it over the facts of the pair.
-- Assumes nothing.
use Rattle.std.specs.Prelude.{ℕ, ◌+◌, Bool, true, false, not, ◌&&◌, ◌||◌, List, [], ◌∷◌, ◌++◌, length, drop, eqb, ltb}
use Rattle.refusals.specs.Check.{pick, Check, check}
use Rattle.header.specs.Header.{read_refusal, header_of, header_length}
use Rattle.slots.specs.Slots.{lid_in_range, lowest_number, slot_octets}

-- ---- limits

-- the lent store: 512 octets for each of the eight slots
abbrev pub store_octets : ℕ
store_octets = 4096

-- the output has room for the longest message
abbrev pub output_octets : ℕ
output_octets = 512

-- the longest LSDU (H)
abbrev pub lsdu_octets : ℕ
lsdu_octets = 128

-- the highest counter
abbrev pub last_counter : ℕ
last_counter = 65535

-- ---- a fragment

-- what the checks ask of a fragment: whether its header is valid, its fields, and the octets of its payload
pub record FragmentFields : Type 0 where
  pub octets : ℕ
  pub counter : ℕ
  pub number : ℕ
  pub valid : Bool
  pub last : Bool

-- what they ask of its pair: whether it is open, the expected counter, the octets held; and whether no slot is free
pub record Facts : Type 0 where
  pub held : ℕ
  pub expected : ℕ
  pub is_open : Bool
  pub full : Bool

-- what stands behind the header
unfoldable pub payload_of : List ℕ → List ℕ
payload_of lsdu = drop (header_length lsdu) lsdu

-- an LSDU's fragment: last mark, PDU number and counter of its header, and the octets of its payload
unfoldable pub fragment_in : List ℕ → FragmentFields
fragment_in lsdu =
    let h = header_of lsdu in
    pick (eqb (read_refusal lsdu) 0)
    (record { valid = true; last = h.last; number = h.number; counter = h.counter; octets = length (payload_of lsdu) })
    (record { valid = false; last = false; number = 0; counter = 0; octets = 0 })

-- ---- the list of checks

-- 1 to 4: the lengths of store and output, the table, the LID, the LSDU's length
abbrev pub lsdu_checks : (store output : ℕ) → (not_sound : Bool) → (lid lsdu : ℕ) → List Check
lsdu_checks store output not_sound lid lsdu =
    check 1 (not (eqb store store_octets) || ltb output output_octets)
    ∷ check 2 not_sound
    ∷ check 3 (not (lid_in_range lid))
    ∷ check 4 (eqb lsdu 0 || ltb lsdu_octets lsdu)
    ∷ []

-- 5 to 7: the header, a reserved number, no payload
abbrev pub header_checks : FragmentFields → List Check
header_checks fragment = check 5 (not fragment.valid) ∷ check 6 (ltb fragment.number lowest_number) ∷ check 7 (eqb fragment.octets 0) ∷ []

-- 8 to 12: the pair
abbrev pub pair_checks : FragmentFields → Facts → List Check
pair_checks fragment facts =
    check 8 (ltb 0 fragment.counter && not facts.is_open)
    ∷ check 9 (eqb fragment.counter 0 && not fragment.last && not facts.is_open && facts.full)
    ∷ check 10 (facts.is_open && ltb 0 fragment.counter && not (eqb fragment.counter facts.expected))
    ∷ check 11 (eqb fragment.counter last_counter && eqb fragment.counter facts.expected && not fragment.last)
    ∷ check 12 (ltb slot_octets (pick (eqb fragment.counter 0) 0 facts.held + fragment.octets))
    ∷ []

-- 1 to 12
abbrev pub fragment_checks : (store output : ℕ) → (not_sound : Bool) → (lid lsdu : ℕ) → FragmentFields → Facts → List Check
fragment_checks store output not_sound lid lsdu fragment facts = lsdu_checks store output not_sound lid lsdu ++ (header_checks fragment ++ pair_checks fragment facts)

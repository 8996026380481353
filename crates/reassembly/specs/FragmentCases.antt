-- Computed cases of Checks.antt, Engine.antt, Holding.antt and the reports of Runs.antt (01, "Joining", first and second paragraph,
-- and rows 1 to 12 of the refusal table): small tables and LSDUs; which check refuses, which slot changes and how, what store and
-- output are afterwards, what the answers mean, what a slot holds, and two ends that demand 3 rules out.
-- Assumes nothing.
use Rattle.std.specs.Prelude.{ℕ, ◌^◌, ◌≡◌, Bool, true, false, List, [], ◌∷◌, map, replicate, Result, Ok, Err}
use Rattle.refusals.specs.Check.{first_of, Answer, refused, accepted}
use Rattle.refusals.specs.declared.Refusal.{Refusal}
use Rattle.refusals.specs.declared.Refusal.TheVariants.{StoreOrOutputLength, TableNotSound, NotOpen, RecordOutOfRange}
use Rattle.slots.specs.declared.Slot.{Slot}
use Rattle.slots.specs.declared.Table.{Table}
use Rattle.slots.specs.Slots.{empty_table}
use Rattle.slots.specs.SlotCases.{place, zeros, made, eight, three, wrong}
use Rattle.reassembly.specs.declared.Accepted.{Accepted}
use Rattle.reassembly.specs.declared.Accepted.TheVariants.{Held, Whole}
use Rattle.reassembly.specs.declared.Change.{Change}
use Rattle.reassembly.specs.Checks.{pair_checks}
use Rattle.reassembly.specs.Engine.{Taken, held, whole, Outcome, fragment_answer, part_at, fragment_taken, fragment_refusal, fragment_of, change_of, changed_by, ChangeGives, FragmentGives}
use Rattle.reassembly.specs.Ledger.{Report, refusing, dropping, delivering}
use Rattle.reassembly.specs.Runs.{fragment_report, sweep_report, Kept}
use Rattle.reassembly.specs.Holding.{HoldsAt}
use Rattle.reassembly.specs.Demand3.{Demand3}

-- ---- which check refuses

-- a call with a store and an output of so many octets, and the number of its refusal, or 0
pub record RefusedCall : Type 0 where
  pub lid : ℕ
  pub lsdu : List ℕ
  pub table : Table
  pub store : ℕ
  pub output : ℕ
  pub number : ℕ

abbrev pub lengths : (store output number : ℕ) → RefusedCall
lengths store output number = record { lid = 1; lsdu = 0x11 ∷ 0xAA ∷ []; table = three; store = store; output = output; number = number }

abbrev pub refusal : (lid : ℕ) → (lsdu : List ℕ) → Table → (number : ℕ) → RefusedCall
refusal lid lsdu table number = record { lid = lid; lsdu = lsdu; table = table; store = 4096; output = 512; number = number }

abbrev pub refusals : List RefusedCall
refusals =
    -- 1 and 2; of two the first decides, and so on
    lengths 4096 512 0
    ∷ lengths 4096 513 0
    ∷ lengths 4095 512 1
    ∷ lengths 4097 512 1
    ∷ lengths 4096 511 1
    ∷ record { lid = 1; lsdu = []; table = wrong; store = 0; output = 0; number = 1 }
    ∷ refusal (2 ^ 28) [] wrong 2
    -- 3 and 4: a LID of 28 bits, one to 128 octets
    ∷ refusal (2 ^ 28) [] three 3
    ∷ refusal 1 [] three 4
    ∷ refusal 1 (0x11 ∷ replicate 127 1) three 0
    ∷ refusal 1 (0x11 ∷ replicate 128 1) three 4
    -- 5 to 7: the header, number 0 or 1, no payload
    ∷ refusal 1 (0x10 ∷ 0x07 ∷ []) three 5
    ∷ refusal 1 (0x09 ∷ []) three 6
    ∷ refusal 1 (0x11 ∷ []) three 7
    -- 8: LID 1 has no message of number 4, LID 2 none of number 3
    ∷ refusal 1 (0x23 ∷ 0xAA ∷ []) three 8
    ∷ refusal 2 (0x1B ∷ 0xAA ∷ []) three 8
    -- 9: only what needs a slot
    ∷ refusal 3 (0x11 ∷ 0xAA ∷ []) (made 255 eight) 9
    ∷ refusal 3 (0x91 ∷ 0xAA ∷ []) (made 255 eight) 0
    ∷ refusal 2 (0x11 ∷ 0xAA ∷ []) (made 255 eight) 0
    -- 10: of message 2 counter 1 is expected; counter 0 opens anew
    ∷ refusal 1 (0x13 ∷ 0xAA ∷ []) three 0
    ∷ refusal 1 (0x15 ∷ 0xAA ∷ []) three 10
    ∷ refusal 1 (0x11 ∷ 0xAA ∷ []) three 0
    -- 12: 510 octets are held, for counter 0 none
    ∷ refusal 1 (0x13 ∷ 1 ∷ 2 ∷ []) (made 1 (place 1 2 1 510 10 ∷ [])) 0
    ∷ refusal 1 (0x13 ∷ 1 ∷ 2 ∷ 3 ∷ []) (made 1 (place 1 2 1 510 10 ∷ [])) 12
    ∷ refusal 1 (0x11 ∷ 1 ∷ 2 ∷ 3 ∷ []) (made 1 (place 1 2 1 510 10 ∷ [])) 0
    ∷ []

-- check 11, of an open pair: in no sound table is a counter above 512 expected
abbrev pub highest : (last : Bool) → (counter expected : ℕ) → ℕ
highest last counter expected =
    first_of
    (pair_checks (record { octets = 1; counter = counter; number = 2; valid = true; last = last })
    (record { held = 5; expected = expected; is_open = true; full = false }))

-- ---- which slot changes

abbrev pub change : Accepted → Slot → ℕ → Change
change taken slot index = record { accepted = taken; slot = slot; index = index }

-- at tick 20
abbrev pub changes : List (Answer Change)
changes =
    -- opened in the lowest free slot, continued in its own, opened anew there
    change_of 1 20 (0x21 ∷ 0xAA ∷ 0xBB ∷ []) three 4096 512
    ∷ change_of 1 20 (0x13 ∷ 0xCC ∷ []) three 4096 512
    ∷ change_of 1 20 (0x19 ∷ 0xDD ∷ []) three 4096 512
    -- the last: the next one, and one that begins, of a pair with a slot and of one without
    ∷ change_of 2 20 (0x93 ∷ 0xEE ∷ []) three 4096 512
    ∷ change_of 1 20 (0x99 ∷ 1 ∷ 2 ∷ []) three 4096 512
    ∷ change_of 5 20 (0x91 ∷ 1 ∷ []) three 4096 512
    -- refused
    ∷ change_of 1 20 [] three 4096 512
    ∷ []

-- ---- store and output, in short: slot 0 of four octets, of which two are held

abbrev pub one : Table
one = made 1 (place 1 2 1 2 10 ∷ [])

abbrev pub store : List ℕ
store = 0xAA ∷ 0xBB ∷ 7 ∷ 7 ∷ []

abbrev pub output : List ℕ
output = 9 ∷ 9 ∷ 9 ∷ 9 ∷ []

-- the payload CC of LID 1 and number 2 at tick 20
abbrev pub taken : (last begins : Bool) → Outcome
taken last begins = fragment_taken last begins 1 2 20 (0xCC ∷ []) one store output

abbrev pub leaves : Answer Taken → Table → List ℕ → List ℕ → Outcome
leaves answer table store output = record { answer = answer; table = table; store = store; output = output }

-- ---- answers and reports

-- an answer's own octets, and a refusal's own number, whichever it is
abbrev pub answers : List (Result Accepted Refusal)
answers = Ok (Held 5 3) ∷ Ok (Whole 5 3) ∷ Err NotOpen ∷ Err RecordOutOfRange ∷ []

-- what an answer reports, with AA BB 7 7 as output
abbrev pub reports : Answer Taken → Report
reports answer = fragment_report answer store

-- ---- the contracts: what they say of a call that is refused with 1, since its store is short

abbrev pub CallGives : Result Accepted Refusal → Table → (store' output' : List ℕ) → Type 0
CallGives answer table = FragmentGives 1 20 (0x13 ∷ 0xCC ∷ []) one store output answer table

abbrev pub ChangeCallGives : Result Change Refusal → (store' output' : List ℕ) → Type 0
ChangeCallGives answer = ChangeGives 1 20 (0x13 ∷ 0xCC ∷ []) one store output answer

-- ---- what a slot holds

-- the store AA BB 7 7, and a table with that word and AA and BB as two fragments in slot 0
abbrev pub kept : (busy : ℕ) → Kept
kept busy = record { table = made busy (place 1 2 2 2 10 ∷ []); store = store }

-- the same store, and a table whose last slot is not all zero, though its bit is clear
abbrev pub unclean : Kept
unclean = record { table = made 0 (zeros ∷ zeros ∷ zeros ∷ zeros ∷ zeros ∷ zeros ∷ zeros ∷ place 0 0 0 0 5 ∷ []); store = store }

-- ---- what is proved

pub record FragmentCasesHold : Type 0 where
  pub refusing_first :
      map (λ (c : RefusedCall). fragment_refusal c.lid c.lsdu c.table c.store c.output) refusals
      ≡ map (λ (c : RefusedCall). c.number) refusals
  pub highest_counter :
      highest false 65535 65535 ∷ highest true 65535 65535 ∷ highest false 65534 65534 ∷ highest false 65535 3 ∷ []
      ≡ 11 ∷ 0 ∷ 0 ∷ 10 ∷ []
  pub changing :
      changes
      ≡ accepted (change (Held 2 0) (place 1 4 1 2 20) 1) ∷ accepted (change (Held 4 0) (place 1 2 2 4 10) 0)
      ∷ accepted (change (Held 1 5) (place 1 3 1 1 20) 2) ∷ accepted (change (Whole 8 0) zeros 3)
      ∷ accepted (change (Whole 2 5) zeros 2) ∷ accepted (change (Whole 1 0) zeros 8) ∷ refused 4 ∷ []
  -- the part of slot i starts at octet 512 i
  pub parts : map part_at (0 ∷ 1 ∷ 7 ∷ []) ≡ 0 ∷ 512 ∷ 3584 ∷ []
  -- continued and begun anew, not the last and the last
  pub taking :
      taken false false ∷ taken false true ∷ taken true false ∷ taken true true ∷ []
      ≡ leaves (accepted (held 3 0)) (made 1 (place 1 2 2 3 10 ∷ [])) (0xAA ∷ 0xBB ∷ 0xCC ∷ 7 ∷ []) output
      ∷ leaves (accepted (held 1 2)) (made 1 (place 1 2 1 1 20 ∷ [])) (0xCC ∷ 0xBB ∷ 7 ∷ 7 ∷ []) output
      ∷ leaves (accepted (whole 3 0)) empty_table store (0xAA ∷ 0xBB ∷ 0xCC ∷ 9 ∷ [])
      ∷ leaves (accepted (whole 1 2)) empty_table store (0xCC ∷ 9 ∷ 9 ∷ 9 ∷ []) ∷ []
  -- a refusal changes nothing, here 1 for the short store
  pub call_refused : fragment_of 1 20 (0x13 ∷ 0xCC ∷ []) one store output ≡ leaves (refused 1) one store output
  pub answering : map fragment_answer answers ≡ accepted (held 5 3) ∷ accepted (whole 5 3) ∷ refused 8 ∷ refused 23 ∷ []
  pub reporting :
      map reports (accepted (held 5 3) ∷ accepted (whole 2 3) ∷ refused 8 ∷ [])
      ≡ dropping 3 ∷ delivering 3 (0xAA ∷ 0xBB ∷ []) ∷ refusing 8 ∷ []
  pub sweeps_reporting : map sweep_report (accepted 6 ∷ refused 2 ∷ refused 3 ∷ []) ≡ dropping 6 ∷ refusing 2 ∷ refusing 3 ∷ []
  -- the table that a change makes
  pub changed :
      map (changed_by one) (change (Held 4 0) (place 1 3 1 4 20) 1 ∷ change (Whole 3 0) zeros 0 ∷ change (Whole 1 0) zeros 8 ∷ [])
      ≡ made 3 (place 1 2 1 2 10 ∷ place 1 3 1 4 20 ∷ []) ∷ empty_table ∷ one ∷ []
  -- the contracts, of that refusal: answer, table, store and output are these, and no others
  pub result : CallGives (Err StoreOrOutputLength) one store output
  pub not_answer : CallGives (Err TableNotSound) one store output → ⊥
  pub not_table : CallGives (Err StoreOrOutputLength) empty_table store output → ⊥
  pub not_store : CallGives (Err StoreOrOutputLength) one output output → ⊥
  pub not_output : CallGives (Err StoreOrOutputLength) one store store → ⊥
  pub change_result : ChangeCallGives (Err StoreOrOutputLength) store output
  pub not_change : ChangeCallGives (Err TableNotSound) store output → ⊥
  pub not_changed : ChangeCallGives (Ok (change (Held 3 0) (place 1 2 2 3 10) 0)) store output → ⊥
  pub not_change_store : ChangeCallGives (Err StoreOrOutputLength) output output → ⊥
  pub not_change_output : ChangeCallGives (Err StoreOrOutputLength) store store → ⊥
  -- AA and BB in slot 0, opened at tick 10; not if the bit is clear, not with another tick, not AA and BC; and there is no slot 8
  pub holds : HoldsAt (kept 1) 0 1 2 10 ((0xAA ∷ []) ∷ (0xBB ∷ []) ∷ [])
  pub not_busy : HoldsAt (kept 2) 0 1 2 10 ((0xAA ∷ []) ∷ (0xBB ∷ []) ∷ []) → ⊥
  pub not_tick : HoldsAt (kept 1) 0 1 2 11 ((0xAA ∷ []) ∷ (0xBB ∷ []) ∷ []) → ⊥
  pub not_octets : HoldsAt (kept 1) 0 1 2 10 ((0xAA ∷ []) ∷ (0xBC ∷ []) ∷ []) → ⊥
  pub not_slot_8 : HoldsAt (kept 257) 8 0 0 0 [] → ⊥
  -- demand 3 is not met by no calls that leave two octets held, nor by a free slot that is not all zero
  pub not_balanced : Demand3 store [] [] (kept 1) → ⊥
  pub not_zero : Demand3 store [] [] unclean → ⊥

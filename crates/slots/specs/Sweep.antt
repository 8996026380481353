-- Expiry and release (01, "Joining", third paragraph): each frees the slots that a test picks, answers how many octets it dropped, and
-- leaves the store unchanged. Expiry checks 2; release checks 2, then 3.
-- Assumes nothing.
use Rattle.std.specs.Prelude.{◌≡◌, ℕ, ◌+◌, ◌-◌, ◌%◌, ◌^◌, Bool, not, ◌&&◌, List, [], ◌∷◌, ◌==◌, nat_le, Result, Ok, Err}
use Rattle.refusals.specs.Check.{pick, Check, check, first_of, Answer, refused, accepted}
use Rattle.refusals.specs.declared.Refusal.{Refusal}
use Rattle.refusals.specs.Refusal.{number_of}
use Rattle.slots.specs.declared.Slot.{Slot}
use Rattle.slots.specs.declared.Table.{Table}
use Rattle.slots.specs.Slots.{free, is_busy, lid_in_range, is_sound, table_of}

-- the age: tick minus opening tick modulo 2^32
abbrev pub age_of : ℕ → ℕ → ℕ
age_of tick opened = (tick + (2 ^ 32 - opened)) % 2 ^ 32

-- the age is at least the limit
abbrev pub is_aged : (tick limit opened : ℕ) → Bool
is_aged tick limit opened = nat_le limit (age_of tick opened)

-- a busy slot of that age
abbrev pub aged_slot : ℕ → ℕ → Slot → Bool
aged_slot tick limit slot = is_busy slot && is_aged tick limit slot.tick

-- a busy slot of that LID
abbrev pub of_lid : ℕ → Slot → Bool
of_lid lid slot = is_busy slot && slot.lid == lid

-- the slots, those that the test picks freed
unfoldable pub freed : (Slot → Bool) → List Slot → List Slot
freed test [] = []
freed test (slot ∷ slots) = pick (test slot) free slot ∷ freed test slots

-- the octets of the slots that the test picks
unfoldable pub dropped_by : (Slot → Bool) → List Slot → ℕ
dropped_by test [] = 0
dropped_by test (slot ∷ slots) = pick (test slot) slot.held 0 + dropped_by test slots

-- ---- the checks, over whether the table is not sound: engine and ledger share them

abbrev pub expiry_checks : Bool → List Check
expiry_checks not_sound = check 2 not_sound ∷ []

abbrev pub release_checks : Bool → ℕ → List Check
release_checks not_sound lid = check 2 not_sound ∷ check 3 (not (lid_in_range lid)) ∷ []

-- ---- the calls

-- what a call answers, the octets dropped or a refusal; and the table after it
pub record Swept : Type 0 where
  pub answer : Answer ℕ
  pub table : Table

-- the table's slots that the test picks are freed if no check holds; a refusal changes nothing
unfoldable pub swept_by : List Check → (Slot → Bool) → Table → Swept
swept_by checks test table =
    pick (first_of checks == 0)
    (record { answer = accepted (dropped_by test table.slots); table = table_of (freed test table.slots) })
    (record { answer = refused (first_of checks); table = table })

unfoldable pub expiry_of : ℕ → ℕ → Table → Swept
expiry_of tick limit table = swept_by (expiry_checks (not (is_sound table))) (aged_slot tick limit) table

unfoldable pub release_of : ℕ → Table → Swept
release_of lid table = swept_by (release_checks (not (is_sound table)) lid) (of_lid lid) table

-- 01's number or the octets for each case of the answer
abbrev pub sweep_answer : Result ℕ Refusal → Answer ℕ
sweep_answer (Ok octets) = accepted octets
sweep_answer (Err refusal) = refused (number_of refusal)

-- the contracts: the table before, the answer, and the table after
pub record ExpiryGives (tick limit : ℕ) (table : Table) (answer : Result ℕ Refusal) (table' : Table) : Type 0 where
  pub answer_is : sweep_answer answer ≡ (expiry_of tick limit table).answer
  pub table_is : table' ≡ (expiry_of tick limit table).table

pub record ReleaseGives (lid : ℕ) (table : Table) (answer : Result ℕ Refusal) (table' : Table) : Type 0 where
  pub answer_is : sweep_answer answer ≡ (release_of lid table).answer
  pub table_is : table' ≡ (release_of lid table).table

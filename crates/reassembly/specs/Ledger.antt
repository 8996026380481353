-- The ledger of demand 3 (01, "Joining", fourth paragraph). It sees of each call only its kind, LID, tick, limit and LSDU and the lengths
-- of store and output, and keeps the open messages. Its checks and its effect stand apart.
-- Assumes nothing.
use Rattle.std.specs.Prelude.{ℕ, Bool, true, false, not, ◌&&◌, List, [], ◌∷◌, ◌++◌, length, eqb, leb}
use Rattle.refusals.specs.Check.{pick, Check, first_of}
use Rattle.slots.specs.Slots.{slot_count, total}
use Rattle.slots.specs.Sweep.{is_aged, expiry_checks, release_checks}
use Rattle.reassembly.specs.Checks.{Facts, fragment_in, payload_of, fragment_checks}

-- what the ledger sees of a call: output is a length
pub data Call : Type 0 where
  fragment : (lid tick : ℕ) (lsdu : List ℕ) (output : ℕ) → Call
  expiry : (tick limit : ℕ) → Call
  release : (lid : ℕ) → Call

-- what a call reports: a refusal; or the octets dropped, and the message if one is delivered
pub data Report : Type 0 where
  refusing : (number : ℕ) → Report
  dropping : (dropped : ℕ) → Report
  delivering : (dropped : ℕ) (message : List ℕ) → Report

-- an open message: its pair, its opening tick, its payloads
pub record Message : Type 0 where
  pub lid : ℕ
  pub number : ℕ
  pub tick : ℕ
  pub payloads : List (List ℕ)

-- ---- lists

-- payloads joined in order
unfoldable pub joined : List (List ℕ) → List ℕ
joined [] = []
joined (x ∷ xs) = x ++ joined xs

-- the elements that a test picks
unfoldable pub those : {A : Type 0} → (A → Bool) → List A → List A
those test [] = []
those test (x ∷ xs) = pick (test x) (x ∷ those test xs) (those test xs)

abbrev pub first_or : {A : Type 0} → A → List A → A
first_or other [] = other
first_or other (x ∷ xs) = x

abbrev pub some_in : {A : Type 0} → List A → Bool
some_in [] = false
some_in (x ∷ xs) = true

-- ---- the messages kept

abbrev pub of_pair : ℕ → ℕ → Message → Bool
of_pair lid number m = eqb m.lid lid && eqb m.number number

-- the octets of a message
abbrev pub octets_of : Message → ℕ
octets_of m = length (joined m.payloads)

abbrev pub no_message : Message
no_message = record { lid = 0; number = 0; tick = 0; payloads = [] }

-- the message kept for the pair, or one with no payload
abbrev pub kept_for : ℕ → ℕ → List Message → Message
kept_for lid number kept = first_or no_message (those (of_pair lid number) kept)

-- all messages but the pair's
abbrev pub all_but : ℕ → ℕ → List Message → List Message
all_but lid number kept = those (λ m. not (of_pair lid number m)) kept

-- ---- the checks

-- a pair is open if its message is kept, the expected counter is the number of its payloads, held is their octets; no slot is free when
-- eight messages are kept
unfoldable pub facts_of : ℕ → ℕ → List Message → Facts
facts_of lid number kept = record {
  is_open = some_in (those (of_pair lid number) kept);
  expected = length (kept_for lid number kept).payloads;
  held = octets_of (kept_for lid number kept);
  full = leb slot_count (length kept);
}

-- the checks of a call with a store of that length; 2 never holds
abbrev pub ledger_checks : (store : ℕ) → Call → List Message → List Check
ledger_checks store (fragment lid tick lsdu output) kept =
    fragment_checks store output false lid (length lsdu) (fragment_in lsdu) (facts_of lid (fragment_in lsdu).number kept)
ledger_checks store (expiry tick limit) kept = expiry_checks false
ledger_checks store (release lid) kept = release_checks false lid

-- the number of the first check to hold, or 0
unfoldable pub ledger_refusal : (store : ℕ) → Call → List Message → ℕ
ledger_refusal store call kept = first_of (ledger_checks store call kept)

-- ---- the effect

-- what a call reports, and the messages kept after it
pub record After : Type 0 where
  pub report : Report
  pub kept : List Message

-- a fragment with counter 0 drops any message kept for the pair and begins one at this tick; the payload joins its message; a last mark
-- delivers that and ends it
unfoldable pub joining : (last begins : Bool) → (lid number tick : ℕ) → (payload : List ℕ) → List Message → After
joining last begins lid number tick payload kept =
    let m = kept_for lid number kept in
    let payloads = pick begins [] m.payloads ++ (payload ∷ []) in
    let dropped = pick begins (octets_of m) 0 in
    pick last
    (record { report = delivering dropped (joined payloads); kept = all_but lid number kept })
    (record {
      report = dropping dropped;
      kept = record { lid = lid; number = number; tick = pick begins tick m.tick; payloads = payloads } ∷ all_but lid number kept;
    })

-- the messages that a test picks are dropped
abbrev pub drop_those : (Message → Bool) → List Message → After
drop_those test kept = record { report = dropping (total octets_of (those test kept)); kept = those (λ m. not (test m)) kept }

-- expiry drops by age, release by LID
abbrev pub ledger_effect : Call → List Message → After
ledger_effect (fragment lid tick lsdu output) kept =
    joining (fragment_in lsdu).last (eqb (fragment_in lsdu).counter 0) lid (fragment_in lsdu).number tick (payload_of lsdu) kept
ledger_effect (expiry tick limit) kept = drop_those (λ m. is_aged tick limit m.tick) kept
ledger_effect (release lid) kept = drop_those (λ m. eqb m.lid lid) kept

-- ---- calls one after the other

-- the first check to hold refuses, and nothing changes; else the effect
unfoldable pub ledger_step : (store : ℕ) → Call → List Message → After
ledger_step store call kept =
    pick (eqb (ledger_refusal store call kept) 0)
    (ledger_effect call kept)
    (record { report = refusing (ledger_refusal store call kept); kept = kept })

-- what the calls of a list report
unfoldable pub ledger_reports : (store : ℕ) → List Call → List Message → List Report
ledger_reports store [] kept = []
ledger_reports store (call ∷ calls) kept = (ledger_step store call kept).report ∷ ledger_reports store calls (ledger_step store call kept).kept

-- the messages kept after them
unfoldable pub ledger_after : (store : ℕ) → List Call → List Message → List Message
ledger_after store [] kept = kept
ledger_after store (call ∷ calls) kept = ledger_after store calls (ledger_step store call kept).kept

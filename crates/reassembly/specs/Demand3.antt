-- Demand 3, whole (01, "Joining"): one statement about every list of fragment, expiry and release calls, in any mixture and with refused ones
-- among them, on every store of any length and octets, from the empty table. The contract of `fragment` cites `Demanded`.
-- What a reader must believe is imported here: the table (Slots), the ledger (Ledger), the history (History), what a slot holds (Holding),
-- and what a run is (Runs): it assumes of each call only what the call's contract promises.
use Rattle.std.specs.Prelude.{ℕ, ◌+◌, ◌<◌, ◌≡◌, true, false, List, [], ◌∷◌, ◌++◌, map, length, eqb}
use Rattle.slots.specs.Slots.{slot_count, free, empty_table, is_sound, busy_count, total, held_of}
use Rattle.reassembly.specs.Checks.{fragment_in, payload_of}
use Rattle.reassembly.specs.Ledger.{Call, fragment, delivering, joined, ledger_reports, ledger_after}
use Rattle.reassembly.specs.History.{Event, accepted_in, delivered_in, dropped_in, OpenSince, closed, opened, held_after}
use Rattle.reassembly.specs.Holding.{slot_at, busy_at, HoldsAt}
use Rattle.reassembly.specs.Runs.{Kept, Ran}

pub record Demand3 (store : List ℕ) (calls : List Call) (history : List Event) (left : Kept) : Type 0 where
  -- the history is that of these calls
  pub of_calls : map (λ (e : Event). e.call) history ≡ calls
  -- 1. each call is accepted, or refused with the same number, reports as many octets dropped and delivers the same octets as the ledger
  pub as_ledger : map (λ (e : Event). e.report) history ≡ ledger_reports (length store) calls []
  -- 2. payload octets accepted = delivered + reported dropped + held
  pub balance : total accepted_in history ≡ total delivered_in history + total dropped_in history + total held_of left.table.slots
  -- 3. held follows from the history alone: open since the last opening, by the split exactly when by the fold
  pub by_split : (lid number tick : ℕ) (payloads : List (List ℕ)) → held_after lid number closed history ≡ opened tick payloads
      → OpenSince lid number history tick payloads
  pub by_fold : (lid number tick : ℕ) (payloads : List (List ℕ)) → OpenSince lid number history tick payloads
      → held_after lid number closed history ≡ opened tick payloads
  -- 4. exactly these messages have a busy slot: each open one has a slot,
  pub has_slot : (lid number tick : ℕ) (payloads : List (List ℕ)) → OpenSince lid number history tick payloads
      → (i : ℕ) × HoldsAt left i lid number tick payloads
  --    each busy slot has an open one,
  pub has_message : (i : ℕ) → i < slot_count → busy_at left i ≡ true
      → (payloads : List (List ℕ)) × OpenSince (slot_at left i).lid (slot_at left i).number history (slot_at left i).tick payloads
      × HoldsAt left i (slot_at left i).lid (slot_at left i).number (slot_at left i).tick payloads
  --    one each;
  pub one_each : (i j : ℕ) → i < slot_count → j < slot_count → busy_at left i ≡ true → busy_at left j ≡ true
      → (slot_at left i).lid ≡ (slot_at left j).lid → (slot_at left i).number ≡ (slot_at left j).number → i ≡ j
  pub as_many : busy_count left.table ≡ length (ledger_after (length store) calls [])
  --    all other slots are free and all zero; the table is sound
  pub others_free : (i : ℕ) → i < slot_count → busy_at left i ≡ false → slot_at left i ≡ free
  pub table_is_sound : is_sound left.table ≡ true
  pub has_eight : length left.table.slots ≡ slot_count
  -- 5. each delivered message: with counter 0 it is the closing payload; else the payloads since its opening, joined in order with the
  --    closing one last (only fragment calls deliver)
  pub delivered_alone : (before after : List Event) (lid tick output dropped : ℕ) (lsdu message : List ℕ)
      → history ≡ before ++ (record { call = fragment lid tick lsdu output; report = delivering dropped message } ∷ after)
      → eqb (fragment_in lsdu).counter 0 ≡ true → message ≡ payload_of lsdu
  pub delivered_since : (before after : List Event) (lid tick output dropped : ℕ) (lsdu message : List ℕ)
      → history ≡ before ++ (record { call = fragment lid tick lsdu output; report = delivering dropped message } ∷ after)
      → eqb (fragment_in lsdu).counter 0 ≡ false
      → (opening : ℕ) × (payloads : List (List ℕ)) × OpenSince lid (fragment_in lsdu).number before opening payloads
      × (message ≡ joined (payloads ++ (payload_of lsdu ∷ [])))

-- every run meets it
unfoldable pub Demanded : Type 0
Demanded =
    (store : List ℕ) (calls : List Call) (history : List Event) (left : Kept) → Ran calls empty_table store history left → Demand3 store calls history left

-- Computed cases of the ledger and of the history (01, "Joining", fourth paragraph): calls one after the other from an empty
-- ledger, on a store of 4,096 octets, and what 01 says that each reports; then what the first thirteen of them leave open.
-- Assumes nothing.
use Rattle.std.specs.Prelude.{ℕ, ◌-◌, ◌^◌, ◌≡◌, List, [], ◌∷◌, map, take, replicate}
use Rattle.slots.specs.Slots.{total}
use Rattle.reassembly.specs.Ledger.{fragment, expiry, release, Report, refusing, dropping, delivering, ledger_reports}
use Rattle.reassembly.specs.History.{Event, accepted_in, delivered_in, dropped_in, Open, closed, opened, held_after}

-- a fragment call with an output of 512 octets
abbrev pub comes : (lid tick : ℕ) → List ℕ → Report → Event
comes lid tick lsdu report = record { call = fragment lid tick lsdu 512; report = report }

abbrev pub expires : (tick limit : ℕ) → Report → Event
expires tick limit report = record { call = expiry tick limit; report = report }

abbrev pub releases : ℕ → Report → Event
releases lid report = record { call = release lid; report = report }

-- the longest payload behind a header of one octet
abbrev pub long : List ℕ
long = replicate 127 1

abbrev pub cases : List Event
cases =
    -- 01's three lines: message 2 opens with two octets, a third ends it, and a fragment of what is not open is 8
    comes 1 10 (0x11 ∷ 0xAA ∷ 0xBB ∷ []) (dropping 0)
    ∷ comes 1 15 (0x93 ∷ 0xCC ∷ []) (delivering 0 (0xAA ∷ 0xBB ∷ 0xCC ∷ []))
    ∷ comes 1 19 (0x95 ∷ 0xDD ∷ []) (refusing 8)
    -- counter 0 with the last mark is delivered at once
    ∷ comes 1 20 (0x91 ∷ 0xEE ∷ []) (delivering 0 (0xEE ∷ []))
    -- messages of one number and two LIDs, and of one LID and two numbers, are different ones
    ∷ comes 1 30 (0x11 ∷ 0x01 ∷ 0x02 ∷ []) (dropping 0)
    ∷ comes 2 31 (0x11 ∷ 0x03 ∷ []) (dropping 0)
    ∷ comes 1 32 (0x19 ∷ 0x04 ∷ []) (dropping 0)
    ∷ comes 1 33 (0x13 ∷ 0x05 ∷ []) (dropping 0)
    -- a counter that is not the expected one is 10; counter 0 opens anew and drops what was held
    ∷ comes 1 34 (0x13 ∷ 0x06 ∷ []) (refusing 10)
    ∷ comes 1 35 (0x11 ∷ 0x07 ∷ []) (dropping 3)
    ∷ comes 1 36 (0x9B ∷ 0x08 ∷ []) (delivering 0 (0x04 ∷ 0x08 ∷ []))
    ∷ comes 2 37 (0x91 ∷ 0x09 ∷ []) (delivering 1 (0x09 ∷ []))
    ∷ comes 3 38 (0x11 ∷ 0x0A ∷ []) (dropping 0)
    -- expiry drops by the age since the opening: 10 ticks and not 7; modulo 2^32
    ∷ expires 45 8 (dropping 1)
    ∷ comes 1 46 (0x13 ∷ 0x0B ∷ []) (refusing 8)
    ∷ comes 3 47 (0x13 ∷ 0x0C ∷ []) (dropping 0)
    ∷ expires 46 9 (dropping 0)
    ∷ comes 3 48 (0x15 ∷ 0x0D ∷ []) (dropping 0)
    ∷ expires 37 (2 ^ 32 - 1) (dropping 3)
    -- release drops by LID
    ∷ comes 4 50 (0x11 ∷ 0x0E ∷ []) (dropping 0)
    ∷ comes 5 50 (0x11 ∷ 0x0F ∷ []) (dropping 0)
    ∷ comes 4 50 (0x19 ∷ 0x10 ∷ 0x11 ∷ []) (dropping 0)
    ∷ releases 4 (dropping 3)
    ∷ releases 4 (dropping 0)
    ∷ releases (2 ^ 28) (refusing 3)
    ∷ comes 5 51 (0x93 ∷ 0x12 ∷ []) (delivering 0 (0x0F ∷ 0x12 ∷ []))
    -- with eight messages open a ninth is 9, but one that is delivered at once is not, nor one that opens anew
    ∷ comes 1 60 (0x11 ∷ 1 ∷ []) (dropping 0)
    ∷ comes 2 60 (0x11 ∷ 1 ∷ []) (dropping 0)
    ∷ comes 3 60 (0x11 ∷ 1 ∷ []) (dropping 0)
    ∷ comes 4 60 (0x11 ∷ 1 ∷ []) (dropping 0)
    ∷ comes 5 60 (0x11 ∷ 1 ∷ []) (dropping 0)
    ∷ comes 6 60 (0x11 ∷ 1 ∷ []) (dropping 0)
    ∷ comes 7 60 (0x11 ∷ 1 ∷ []) (dropping 0)
    ∷ comes 8 60 (0x11 ∷ 1 ∷ []) (dropping 0)
    ∷ comes 9 61 (0x11 ∷ 1 ∷ []) (refusing 9)
    ∷ comes 9 61 (0x91 ∷ 1 ∷ []) (delivering 0 (1 ∷ []))
    ∷ comes 8 61 (0x11 ∷ 2 ∷ []) (dropping 1)
    ∷ expires 62 0 (dropping 8)
    -- 512 octets are held, 513 are 12; what refuses changes nothing
    ∷ comes 1 70 (0x11 ∷ long) (dropping 0)
    ∷ comes 1 70 (0x13 ∷ long) (dropping 0)
    ∷ comes 1 70 (0x15 ∷ long) (dropping 0)
    ∷ comes 1 70 (0x17 ∷ long) (dropping 0)
    ∷ comes 1 71 (0x10 ∷ 0x09 ∷ replicate 5 1) (refusing 12)
    ∷ comes 1 71 (0x10 ∷ 0x09 ∷ replicate 4 1) (dropping 0)
    ∷ releases 1 (dropping 512)
    ∷ []

-- after the first thirteen: the messages of these pairs
abbrev pub early : List Event
early = take 13 cases

abbrev pub held_in : List Open
held_in = held_after 1 2 closed early ∷ held_after 1 3 closed early ∷ held_after 2 2 closed early ∷ held_after 3 2 closed early ∷ []

-- octets accepted, delivered and dropped
abbrev pub octets_in : List ℕ
octets_in = total accepted_in early ∷ total delivered_in early ∷ total dropped_in early ∷ []

-- what is proved
pub record LedgerCasesHold : Type 0 where
  pub reports : ledger_reports 4096 (map (λ (e : Event). e.call) cases) [] ≡ map (λ (e : Event). e.report) cases
  pub open_ones : held_in ≡ opened 35 ((0x07 ∷ []) ∷ []) ∷ closed ∷ closed ∷ opened 38 ((0x0A ∷ []) ∷ []) ∷ []
  pub balance : octets_in ≡ 13 ∷ 7 ∷ 4 ∷ []

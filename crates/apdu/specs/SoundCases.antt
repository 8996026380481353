-- Computed cases of Sound.antt (01, row 23): records over lent octets, and whether they are sound and whether they are
-- well-formed. A string or a list of ids must lie inside the octets; a list must have the rows that it announces; every
-- value must be in range; at most 32 rows may be present. What is absent or unused is passed over.
-- Assumes nothing.
use Rattle.std.specs.Prelude.{ℕ, ◌≡◌, List, [], ◌∷◌, map, Bool, true, false, length, take, replicate}
use Rattle.apdu.specs.declared.lists.Row.{Row}
use Rattle.apdu.specs.declared.lists.Entry.{Entry}
use Rattle.apdu.specs.declared.records.Message.{Message}
use Rattle.apdu.specs.Sound.{sound, well_formed}
use Rattle.apdu.specs.CaseRecords.{lent, there, absent, OptionalContainer, field, part, held, attributes, action_request, event_request, action_response, event_response, set_response, set_request, get_request, get_response, bst, vst, row, entry}

pub record Verdict : Type 0 where
  pub sound : Bool
  pub well_formed : Bool

-- a record beside the first so many lent octets
pub record Case : Type 0 where
  pub octets : ℕ
  pub message : Message
  pub entries : List Entry
  pub rows : List Row
  pub is : Verdict

abbrev pub judged : Case → Verdict
judged c =
    let s = take c.octets lent in
    record {
      sound = sound (length s) c.message c.entries c.rows;
      well_formed = well_formed s c.message c.entries c.rows;
    }

-- neither unsound nor out of range
abbrev pub good : ℕ → Message → List Entry → List Row → Case
good n m es rs = record { octets = n; message = m; entries = es; rows = rs; is = record { sound = true; well_formed = true } }

-- not sound
abbrev pub bad : ℕ → Message → List Entry → List Row → Case
bad n m es rs = record { octets = n; message = m; entries = es; rows = rs; is = record { sound = false; well_formed = false } }

-- sound, and a value out of range or too many rows
abbrev pub wide : ℕ → Message → List Entry → List Row → Case
wide n m es rs = record { octets = n; message = m; entries = es; rows = rs; is = record { sound = true; well_formed = false } }

-- ---- rows and entries

-- a string of two octets that ends at bit 24, two ids that end at bit 16, an EID, lists of one row and of none
abbrev pub string_row : Row
string_row = row 0x11 2 2 8

abbrev pub ids_row : Row
ids_row = row 0x12 8 2 0

abbrev pub eid_row : Row
eid_row = row 0x13 7 0x21 99

abbrev pub list_row : Row
list_row = row 0x14 9 1 99

abbrev pub empty_list_row : Row
empty_list_row = row 0x15 9 0 99

-- a string that lies nowhere
abbrev pub outside_row : Row
outside_row = row 0x16 2 1 99

-- an entry with its parameter, and one whose parameter is absent
abbrev pub entry_with : OptionalContainer → Entry
entry_with parameter = entry 5 (field there 0x22) parameter

abbrev pub bare_entry : Entry
bare_entry = entry 6 (field there 0x23) (held absent 2 1 99 3)

-- a list of one row that is a list of one row; a list of one row; a string that lies nowhere
abbrev pub nested_entry : Entry
nested_entry = entry_with (held there 9 1 99 2)

abbrev pub ids_entry : Entry
ids_entry = entry_with (held there 9 1 99 1)

abbrev pub outside_entry : Entry
outside_entry = entry_with (held there 2 1 99 0)

-- 32 rows: a list of 16 rows and 15 more
abbrev pub full_rows : List Row
full_rows = row 0x14 9 16 99 ∷ replicate 31 eid_row

-- an entry whose list has them all; one with an EID, which has no rows and says that it has one
abbrev pub full_entry : Entry
full_entry = entry_with (held there 9 16 99 32)

abbrev pub one_more_entry : Entry
one_more_entry = entry_with (held there 7 0x21 99 1)

abbrev pub cases : List Case
cases =
    -- credentials of four octets from bit 12 on end at bit 44: six octets hold them, five do not, and absent they are passed over
    good 6 (action_request true (part there 12 4) (held there 2 2 0 0) (field there 6)) [] []
    ∷ bad 5 (action_request true (part there 12 4) (held there 2 2 0 0) (field there 6)) [] []
    ∷ good 5 (action_request true (part absent 12 4) (held there 2 2 0 0) (field there 6)) [] []
    ∷ good 6 (set_request 0 true (part there 12 4) 0 0 (field there 6)) [] []
    ∷ bad 5 (set_request 0 true (part there 12 4) 0 0 (field there 6)) [] []
    ∷ good 5 (set_request 0 true (part absent 12 4) 0 0 (field there 6)) [] []
    ∷ good 6 (get_request 0 (part there 12 4) (field there 6) (part there 0 3)) [] []
    ∷ bad 5 (get_request 0 (part there 12 4) (field there 6) (part there 0 3)) [] []
    ∷ good 5 (get_request 0 (part absent 12 4) (field there 6) (part there 0 3)) [] []
    -- a parameter that is an octet string or a list of ids lies inside; an EID has no place; absent, it is passed over with its rows
    ∷ good 6 (event_request true (part absent 0 0) (held there 2 4 12 0) (field absent 0)) [] []
    ∷ bad 5 (event_request true (part absent 0 0) (held there 2 4 12 0) (field absent 0)) [] []
    ∷ good 5 (action_request true (part there 0 1) (held there 8 3 12 0) (field absent 0)) [] []
    ∷ bad 4 (action_request true (part there 0 1) (held there 8 3 12 0) (field absent 0)) [] []
    ∷ good 1 (action_request true (part there 0 1) (held there 7 0x21 99 0) (field absent 0)) [] []
    ∷ good 1 (action_request true (part there 0 1) (held absent 2 4 12 2) (field absent 0)) [] (outside_row ∷ outside_row ∷ [])
    ∷ good 6 (action_response 0 (field there 6) (held there 2 4 12 0) (field there 7)) [] []
    ∷ bad 5 (action_response 0 (field there 6) (held there 2 4 12 0) (field there 7)) [] []
    ∷ good 5 (action_response 0 (field there 6) (held absent 2 4 12 1) (field there 7)) [] []
    -- a list of ids lies inside: three ids from bit 8 on end at bit 32, one from bit 16 on at bit 24
    ∷ good 4 (get_request 0 (part absent 0 0) (field absent 0) (part there 8 3)) [] []
    ∷ bad 3 (get_request 0 (part absent 0 0) (field absent 0) (part there 8 3)) [] []
    ∷ good 3 (get_request 0 (part absent 0 0) (field absent 0) (part absent 8 3)) [] []
    ∷ good 3 (get_request 0 (part absent 0 0) (field absent 0) (part there 16 1)) [] []
    ∷ bad 2 (get_request 0 (part absent 0 0) (field absent 0) (part there 16 1)) [] []
    -- a list has as many rows as it announces, each followed by those of its own list; rows behind them are passed over
    ∷ good 3 (set_request 0 true (part absent 0 0) 2 3 (field absent 0)) [] (string_row ∷ list_row ∷ ids_row ∷ outside_row ∷ [])
    ∷ good 3 (set_request 0 true (part absent 0 0) 3 4 (field absent 0)) [] (list_row ∷ eid_row ∷ empty_list_row ∷ ids_row ∷ [])
    ∷ bad 3 (set_request 0 true (part absent 0 0) 2 2 (field absent 0)) [] (string_row ∷ list_row ∷ ids_row ∷ [])
    ∷ bad 3 (set_request 0 true (part absent 0 0) 3 2 (field absent 0)) [] (string_row ∷ ids_row ∷ [])
    ∷ bad 3 (set_request 0 true (part absent 0 0) 1 2 (field absent 0)) [] (string_row ∷ ids_row ∷ [])
    ∷ bad 3 (set_request 0 true (part absent 0 0) 2 2 (field absent 0)) [] (string_row ∷ [])
    ∷ good 3 (get_response 0 (field there 6) (attributes there 2 3) (field there 7)) [] (string_row ∷ list_row ∷ ids_row ∷ outside_row ∷ [])
    ∷ bad 3 (get_response 0 (field there 6) (attributes there 2 1) (field there 7)) [] (string_row ∷ ids_row ∷ [])
    ∷ good 0 (get_response 0 (field there 6) (attributes absent 2 1) (field there 7)) [] (outside_row ∷ [])
    ∷ good 3 (action_request true (part absent 0 0) (held there 9 2 99 3) (field absent 0)) [] (string_row ∷ list_row ∷ ids_row ∷ outside_row ∷ [])
    ∷ bad 3 (action_request true (part absent 0 0) (held there 9 2 99 1) (field absent 0)) [] (string_row ∷ ids_row ∷ [])
    ∷ bad 3 (action_request true (part absent 0 0) (held there 2 1 0 1) (field absent 0)) [] (string_row ∷ [])
    ∷ good 3 (action_response 0 (field there 6) (held there 9 2 99 3) (field there 7)) [] (string_row ∷ list_row ∷ ids_row ∷ outside_row ∷ [])
    ∷ bad 3 (action_response 0 (field there 6) (held there 9 2 99 1) (field there 7)) [] (string_row ∷ ids_row ∷ [])
    -- every row's string and list of ids lies inside, the last one's too
    ∷ bad 2 (set_request 0 true (part absent 0 0) 2 3 (field absent 0)) [] (string_row ∷ list_row ∷ ids_row ∷ [])
    ∷ bad 1 (set_request 0 true (part absent 0 0) 2 3 (field absent 0)) [] (eid_row ∷ list_row ∷ ids_row ∷ [])
    ∷ bad 2 (get_response 0 (field there 6) (attributes there 1 1) (field there 7)) [] (string_row ∷ [])
    ∷ bad 2 (action_request true (part absent 0 0) (held there 9 1 99 1) (field absent 0)) [] (string_row ∷ [])
    -- responses have neither strings nor rows
    ∷ good 0 (event_response 0 (field there 6) (field there 7)) [] (outside_row ∷ [])
    ∷ good 0 (set_response 0 (field there 6) (field there 7)) [] (outside_row ∷ [])
    -- BST: each mandatory entry with its own rows; the others, if they are there, with the rows behind those; the profiles. An
    -- absent parameter has no rows, and entries behind the others are passed over
    ∷ good 4 (bst 2 (field there 1) 4 3) (nested_entry ∷ bare_entry ∷ ids_entry ∷ outside_entry ∷ []) (list_row ∷ string_row ∷ ids_row ∷ outside_row ∷ [])
    ∷ bad 3 (bst 2 (field there 1) 4 3) (nested_entry ∷ bare_entry ∷ ids_entry ∷ []) (list_row ∷ string_row ∷ ids_row ∷ [])
    ∷ bad 4 (bst 2 (field there 1) 4 3) (nested_entry ∷ bare_entry ∷ ids_entry ∷ []) (list_row ∷ outside_row ∷ ids_row ∷ [])
    ∷ bad 4 (bst 2 (field there 1) 4 3) (nested_entry ∷ bare_entry ∷ ids_entry ∷ []) (list_row ∷ string_row ∷ outside_row ∷ [])
    ∷ bad 4 (bst 2 (field there 1) 4 3) (nested_entry ∷ outside_entry ∷ bare_entry ∷ []) (list_row ∷ string_row ∷ [])
    ∷ bad 4 (bst 1 (field there 1) 4 3) (bare_entry ∷ outside_entry ∷ []) []
    ∷ good 4 (bst 1 (field absent 1) 4 3) (bare_entry ∷ outside_entry ∷ []) (outside_row ∷ [])
    ∷ good 3 (bst 1 (field absent 2) 16 1) (bare_entry ∷ []) []
    ∷ bad 2 (bst 1 (field absent 2) 16 1) (bare_entry ∷ []) []
    -- VST: each application's entry with its own rows
    ∷ good 3 (vst 0 2 (field there 1)) (nested_entry ∷ ids_entry ∷ outside_entry ∷ []) (list_row ∷ string_row ∷ ids_row ∷ outside_row ∷ [])
    ∷ bad 2 (vst 0 2 (field there 1)) (nested_entry ∷ ids_entry ∷ []) (list_row ∷ string_row ∷ ids_row ∷ [])
    ∷ bad 3 (vst 0 2 (field there 1)) (ids_entry ∷ nested_entry ∷ []) (ids_row ∷ list_row ∷ [])
    ∷ bad 3 (vst 0 2 (field there 1)) (bare_entry ∷ outside_entry ∷ []) []
    -- sound, and out of range: an id whose first bit is 1, a container kind that is not read
    ∷ wide 6 (get_request 0 (part there 12 4) (field there 6) (part there 32 1)) [] []
    ∷ wide 6 (action_request true (part absent 0 0) (held there 3 1 0 0) (field absent 0)) [] []
    -- at most 32 rows of what is present, summed over the entries; absent lists and parameters are passed over
    ∷ good 0 (set_request 0 true (part absent 0 0) 16 32 (field absent 0)) [] full_rows
    ∷ wide 0 (set_request 0 true (part absent 0 0) 16 33 (field absent 0)) [] full_rows
    ∷ good 0 (get_response 0 (field there 6) (attributes there 16 32) (field there 7)) [] full_rows
    ∷ wide 0 (get_response 0 (field there 6) (attributes there 16 33) (field there 7)) [] full_rows
    ∷ good 0 (get_response 0 (field there 6) (attributes absent 16 33) (field there 7)) [] full_rows
    ∷ good 0 (action_request true (part absent 0 0) (held there 9 16 99 32) (field absent 0)) [] full_rows
    ∷ wide 0 (action_request true (part absent 0 0) (held there 9 16 99 33) (field absent 0)) [] full_rows
    ∷ good 0 (action_request true (part absent 0 0) (held absent 9 16 99 33) (field absent 0)) [] full_rows
    ∷ wide 0 (event_request true (part absent 0 0) (held there 9 16 99 33) (field absent 0)) [] full_rows
    ∷ good 0 (event_request true (part absent 0 0) (held absent 9 16 99 33) (field absent 0)) [] full_rows
    ∷ wide 0 (action_response 0 (field there 6) (held there 9 16 99 33) (field there 7)) [] full_rows
    ∷ good 0 (action_response 0 (field there 6) (held absent 9 16 99 33) (field there 7)) [] full_rows
    ∷ good 4 (bst 1 (field there 1) 4 3) (full_entry ∷ bare_entry ∷ []) full_rows
    ∷ wide 4 (bst 1 (field there 1) 4 3) (full_entry ∷ one_more_entry ∷ []) full_rows
    ∷ wide 4 (bst 2 (field absent 1) 4 3) (full_entry ∷ one_more_entry ∷ []) full_rows
    ∷ good 4 (bst 1 (field absent 1) 4 3) (full_entry ∷ one_more_entry ∷ []) full_rows
    ∷ good 0 (vst 0 2 (field there 1)) (full_entry ∷ bare_entry ∷ []) full_rows
    ∷ wide 0 (vst 0 2 (field there 1)) (full_entry ∷ one_more_entry ∷ []) full_rows
    ∷ good 0 (vst 0 1 (field there 1)) (full_entry ∷ one_more_entry ∷ []) full_rows
    -- responses without lists have none
    ∷ good 0 (event_response 0 (field there 6) (field there 7)) (full_entry ∷ one_more_entry ∷ []) full_rows
    ∷ good 0 (set_response 0 (field there 6) (field there 7)) (full_entry ∷ one_more_entry ∷ []) full_rows
    ∷ good 4 (get_request 0 (part absent 0 0) (field absent 0) (part there 8 3)) (full_entry ∷ one_more_entry ∷ []) full_rows
    ∷ []

-- what is proved
abbrev pub SoundCasesHold : Type 0
SoundCasesHold = map judged cases ≡ map (λ (c : Case). c.is) cases

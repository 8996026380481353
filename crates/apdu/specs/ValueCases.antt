-- Computed cases of Values.antt: records, and the messages that 01's table of choices and ISO 15628, Annex A, give for
-- them, octet by octet, with the bit places where their strings and lists of ids start. The numbers of a record differ,
-- absent fields are not 0, and others stand behind the rows and entries that it uses: absent and unused ones are passed over.
-- Assumes nothing.
use Rattle.std.specs.Prelude.{ℕ, ◌≡◌, List, [], ◌∷◌, map, Bool, true, false}
use Rattle.apdu_format.specs.Reading.{Value, fields, string}
use Rattle.apdu_format.specs.Writing.{in_range, encoded_octets}
use Rattle.apdu.specs.declared.lists.Row.{Row}
use Rattle.apdu.specs.declared.lists.Entry.{Entry}
use Rattle.apdu.specs.declared.records.Message.{Message}
use Rattle.apdu.specs.Values.{values_of}
use Rattle.apdu.specs.CaseRecords.{lent, there, absent, field, part, held, attributes, action_request, event_request, action_response, event_response, set_response, set_request, get_request, get_response, bst, vst, row, entry}

-- ---- rows and entries

-- 11 02 01 45: an octet string
abbrev pub string_row : Row
string_row = row 0x11 2 1 16

-- 12 09 01: a list of one row, which follows it
abbrev pub list_row : Row
list_row = row 0x12 9 1 3

-- 13 07 21: an EID
abbrev pub eid_row : Row
eid_row = row 0x13 7 0x21 3

-- 14 08 02 23 45: two ids
abbrev pub ids_row : Row
ids_row = row 0x14 8 2 8

-- 41 09 01 and two rows: no eid, a list of one row, which is a list of one row
abbrev pub list_entry : Entry
list_entry = entry 1 (field absent 0x55) (held there 9 1 3 2)

-- 82 08: no parameter, and no rows
abbrev pub eid_entry : Entry
eid_entry = entry 2 (field there 8) (held absent 9 1 3 3)

-- C3 09 09 02 and two rows: both
abbrev pub whole_entry : Entry
whole_entry = entry 3 (field there 9) (held there 9 2 3 2)

-- 4A 02 02 12 34: no eid, an octet string
abbrev pub string_entry : Entry
string_entry = entry 10 (field absent 0x55) (held there 2 2 4 0)

-- ---- cases

-- the message of a record: whether it has a value in range for each component and none left, its octets, and where its
-- strings and lists of ids start
pub record Picture : Type 0 where
  pub ranges : Bool
  pub octets : List ℕ
  pub places : List ℕ

unfoldable pub places_of : List Value → List ℕ
places_of [] = []
places_of (fields fs ∷ vs) = places_of vs
places_of (string at l ∷ vs) = at ∷ places_of vs

unfoldable pub picture_of : List Value → Picture
picture_of vs = record { ranges = in_range vs; octets = encoded_octets vs; places = places_of vs }

pub record Case : Type 0 where
  pub message : Message
  pub entries : List Entry
  pub rows : List Row
  pub gives : Picture

abbrev pub gives : Message → List Entry → List Row → List ℕ → List ℕ → Case
gives m es rs octets places = record { message = m; entries = es; rows = rs; gives = record { ranges = true; octets = octets; places = places } }

-- a message without entries, and with or without rows
abbrev pub service : Message → List Row → List ℕ → List ℕ → Case
service m rs octets places = gives m [] rs octets places

abbrev pub cases : List Case
cases =
    -- action request: choice 0; credentials, parameter, iid, mode; eid, action type, credentials, parameter, iid. A list of
    -- attributes is its count and its rows; each row is followed by the rows of its own list
    service (action_request false (part there 12 4) (held there 9 2 3 3) (field there 6)) (string_row ∷ list_row ∷ eid_row ∷ ids_row ∷ [])
    (0x0E ∷ 0x05 ∷ 0x07 ∷ 0x04 ∷ 0x34 ∷ 0x56 ∷ 0x78 ∷ 0x9A ∷ 0x09 ∷ 0x02 ∷ 0x11 ∷ 0x02 ∷ 0x01 ∷ 0x45 ∷ 0x12 ∷ 0x09 ∷ 0x01 ∷ 0x13 ∷ 0x07 ∷ 0x21 ∷ 0x06 ∷ [])
    (12 ∷ 16 ∷ [])
    ∷ service (action_request true (part there 12 4) (held absent 2 3 16 1) (field absent 6)) (ids_row ∷ []) (0x09 ∷ 0x05 ∷ 0x07 ∷ 0x04 ∷ 0x34 ∷ 0x56 ∷ 0x78 ∷ 0x9A ∷ [])
    (12 ∷ [])
    ∷ service (action_request true (part absent 12 4) (held there 2 3 16 0) (field absent 6)) (ids_row ∷ []) (0x05 ∷ 0x05 ∷ 0x07 ∷ 0x02 ∷ 0x03 ∷ 0x45 ∷ 0x67 ∷ 0x89 ∷ []) (16 ∷ [])
    -- event request: choice 2, else as an action request
    ∷ service (event_request false (part absent 12 4) (held absent 2 3 16 1) (field there 6)) (ids_row ∷ []) (0x22 ∷ 0x05 ∷ 0x07 ∷ 0x06 ∷ []) []
    -- action response: choice 1; iid, parameter, ret, fill; eid, iid, parameter, ret
    ∷ service (action_response 0 (field there 6) (held there 9 1 3 2) (field there 7)) (list_row ∷ eid_row ∷ ids_row ∷ [])
    (0x1E ∷ 0x05 ∷ 0x06 ∷ 0x09 ∷ 0x01 ∷ 0x12 ∷ 0x09 ∷ 0x01 ∷ 0x13 ∷ 0x07 ∷ 0x21 ∷ 0x07 ∷ []) []
    ∷ service (action_response 1 (field there 6) (held absent 8 2 4 1) (field absent 7)) (ids_row ∷ []) (0x19 ∷ 0x05 ∷ 0x06 ∷ []) []
    ∷ service (action_response 1 (field absent 6) (held there 8 2 4 0) (field absent 7)) (ids_row ∷ []) (0x15 ∷ 0x05 ∷ 0x08 ∷ 0x02 ∷ 0x12 ∷ 0x34 ∷ []) (4 ∷ [])
    -- event response: choice 3; iid, ret, fill of two bits; eid, iid, ret. Set response: choice 5, else the same
    ∷ service (event_response 2 (field there 6) (field there 7)) (ids_row ∷ []) (0x3E ∷ 0x05 ∷ 0x06 ∷ 0x07 ∷ []) []
    ∷ service (event_response 1 (field there 6) (field absent 7)) [] (0x39 ∷ 0x05 ∷ 0x06 ∷ []) []
    ∷ service (set_response 3 (field absent 6) (field there 7)) [] (0x57 ∷ 0x05 ∷ 0x07 ∷ []) []
    -- set request: choice 4; credentials, iid, fill, mode; eid, credentials, attribute list, iid
    ∷ service (set_request 0 false (part there 12 4) 2 3 (field there 6)) (string_row ∷ list_row ∷ eid_row ∷ ids_row ∷ [])
    (0x4C ∷ 0x05 ∷ 0x04 ∷ 0x34 ∷ 0x56 ∷ 0x78 ∷ 0x9A ∷ 0x02 ∷ 0x11 ∷ 0x02 ∷ 0x01 ∷ 0x45 ∷ 0x12 ∷ 0x09 ∷ 0x01 ∷ 0x13 ∷ 0x07 ∷ 0x21 ∷ 0x06 ∷ [])
    (12 ∷ 16 ∷ [])
    ∷ service (set_request 1 false (part there 12 4) 0 0 (field absent 6)) (ids_row ∷ []) (0x4A ∷ 0x05 ∷ 0x04 ∷ 0x34 ∷ 0x56 ∷ 0x78 ∷ 0x9A ∷ 0x00 ∷ []) (12 ∷ [])
    ∷ service (set_request 1 true (part absent 12 4) 1 1 (field absent 6)) (ids_row ∷ []) (0x43 ∷ 0x05 ∷ 0x01 ∷ 0x14 ∷ 0x08 ∷ 0x02 ∷ 0x23 ∷ 0x45 ∷ []) (8 ∷ [])
    -- get request: choice 6; credentials, iid, id list, fill; eid, credentials, iid, id list
    ∷ service (get_request 0 (part there 12 4) (field there 6) (part there 20 2)) []
    (0x6E ∷ 0x05 ∷ 0x04 ∷ 0x34 ∷ 0x56 ∷ 0x78 ∷ 0x9A ∷ 0x06 ∷ 0x02 ∷ 0x56 ∷ 0x78 ∷ []) (12 ∷ 20 ∷ [])
    ∷ service (get_request 1 (part there 12 4) (field absent 6) (part absent 20 2)) [] (0x69 ∷ 0x05 ∷ 0x04 ∷ 0x34 ∷ 0x56 ∷ 0x78 ∷ 0x9A ∷ []) (12 ∷ [])
    ∷ service (get_request 1 (part absent 12 4) (field absent 6) (part there 20 2)) [] (0x63 ∷ 0x05 ∷ 0x02 ∷ 0x56 ∷ 0x78 ∷ []) (20 ∷ [])
    -- get response: choice 7; iid, attribute list, ret, fill; eid, iid, attribute list, ret
    ∷ service (get_response 0 (field there 6) (attributes there 2 3) (field there 7)) (string_row ∷ list_row ∷ eid_row ∷ ids_row ∷ [])
    (0x7E ∷ 0x05 ∷ 0x06 ∷ 0x02 ∷ 0x11 ∷ 0x02 ∷ 0x01 ∷ 0x45 ∷ 0x12 ∷ 0x09 ∷ 0x01 ∷ 0x13 ∷ 0x07 ∷ 0x21 ∷ 0x07 ∷ []) (16 ∷ [])
    ∷ service (get_response 1 (field there 6) (attributes absent 2 1) (field absent 7)) (ids_row ∷ []) (0x79 ∷ 0x05 ∷ 0x06 ∷ []) []
    ∷ service (get_response 1 (field absent 6) (attributes there 1 1) (field absent 7)) (ids_row ∷ []) (0x75 ∷ 0x05 ∷ 0x01 ∷ 0x14 ∷ 0x08 ∷ 0x02 ∷ 0x23 ∷ 0x45 ∷ []) (8 ∷ [])
    -- BST: choice 8, second list, manufacturer of 16 bits, individual of 27; time, profile, mandatory applications, others,
    -- profile list. An entry: eid, parameter, 0, AID of five bits; eid, parameter. Rows go to the entries in order
    ∷ gives (bst 2 (field there 1) 4 3) (list_entry ∷ eid_entry ∷ whole_entry ∷ string_entry ∷ []) (list_row ∷ eid_row ∷ string_row ∷ ids_row ∷ list_row ∷ [])
    (0x88 ∷ 0x91 ∷ 0xA5 ∷ 0x67 ∷ 0x8A ∷ 0xBC ∷ 0xC1 ∷ 0xC2 ∷ 0xC3 ∷ 0xC4 ∷ 0x2B
    ∷ 0x02 ∷ 0x41 ∷ 0x09 ∷ 0x01 ∷ 0x12 ∷ 0x09 ∷ 0x01 ∷ 0x13 ∷ 0x07 ∷ 0x21 ∷ 0x82 ∷ 0x08
    ∷ 0x01 ∷ 0xC3 ∷ 0x09 ∷ 0x09 ∷ 0x02 ∷ 0x11 ∷ 0x02 ∷ 0x01 ∷ 0x45 ∷ 0x14 ∷ 0x08 ∷ 0x02 ∷ 0x23 ∷ 0x45
    ∷ 0x03 ∷ 0x12 ∷ 0x34 ∷ 0x56 ∷ []) (16 ∷ 8 ∷ 4 ∷ [])
    ∷ gives (bst 1 (field absent 1) 4 3) (string_entry ∷ eid_entry ∷ []) (ids_row ∷ [])
    (0x80 ∷ 0x91 ∷ 0xA5 ∷ 0x67 ∷ 0x8A ∷ 0xBC ∷ 0xC1 ∷ 0xC2 ∷ 0xC3 ∷ 0xC4 ∷ 0x2B ∷ 0x01 ∷ 0x4A ∷ 0x02 ∷ 0x02 ∷ 0x12 ∷ 0x34 ∷ 0x03 ∷ 0x12 ∷ 0x34 ∷ 0x56 ∷ [])
    (4 ∷ 4 ∷ [])
    -- VST: choice 9, fill of four bits; profile, applications, configuration: status present, class of 15 bits, maker,
    -- status
    ∷ gives (vst 10 3 (field there 0x9ABC)) (list_entry ∷ eid_entry ∷ whole_entry ∷ string_entry ∷ []) (list_row ∷ eid_row ∷ string_row ∷ ids_row ∷ list_row ∷ [])
    (0x9A ∷ 0x2B ∷ 0x03 ∷ 0x41 ∷ 0x09 ∷ 0x01 ∷ 0x12 ∷ 0x09 ∷ 0x01 ∷ 0x13 ∷ 0x07 ∷ 0x21 ∷ 0x82 ∷ 0x08
    ∷ 0xC3 ∷ 0x09 ∷ 0x09 ∷ 0x02 ∷ 0x11 ∷ 0x02 ∷ 0x01 ∷ 0x45 ∷ 0x14 ∷ 0x08 ∷ 0x02 ∷ 0x23 ∷ 0x45
    ∷ 0x92 ∷ 0x34 ∷ 0x56 ∷ 0x78 ∷ 0x9A ∷ 0xBC ∷ []) (16 ∷ 8 ∷ [])
    ∷ gives (vst 5 1 (field absent 0x9ABC)) (string_entry ∷ eid_entry ∷ []) [] (0x95 ∷ 0x2B ∷ 0x01 ∷ 0x4A ∷ 0x02 ∷ 0x02 ∷ 0x12 ∷ 0x34 ∷ 0x12 ∷ 0x34 ∷ 0x56 ∷ 0x78 ∷ [])
    (4 ∷ [])
    ∷ []

-- what is proved
abbrev pub ValueCasesHold : Type 0
ValueCasesHold = map (λ (c : Case). picture_of (values_of lent c.message c.entries c.rows)) cases ≡ map (λ (c : Case). c.gives) cases

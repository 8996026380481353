-- Computed cases of Tidy.antt (01, "Messages": absent fields and unused rows are read as 0): records with their entries and
-- rows, and whether they are tidy. A record that is not tidy differs from a tidy one in one number.
-- Assumes nothing.
use Rattle.std.specs.Prelude.{List, [], ◌∷◌, Bool, true, false}
use Rattle.refusals.specs.Check.{pick}
use Rattle.apdu.specs.declared.lists.Row.{Row}
use Rattle.apdu.specs.declared.lists.Entry.{Entry}
use Rattle.apdu.specs.declared.records.Message.{Message}
use Rattle.apdu.specs.Values.{empty_row, empty_entry}
use Rattle.apdu.specs.Tidy.{message_tidy}
use Rattle.apdu.specs.CaseRecords.{there, absent, OptionalField, field, OptionalPart, part, OptionalContainer, held, OptionalList, attributes, action_request, event_request, action_response, event_response, set_response, set_request, get_request, get_response, bst, vst, row, entry}

pub record Case : Type 0 where
  pub tidy : Bool
  pub message : Message
  pub entries : List Entry
  pub rows : List Row

abbrev pub tidy : Message → List Entry → List Row → Case
tidy m es rs = record { tidy = true; message = m; entries = es; rows = rs }

abbrev pub untidy : Message → List Entry → List Row → Case
untidy m es rs = record { tidy = false; message = m; entries = es; rows = rs }

-- ---- parts

-- absent ones, all 0
abbrev pub no_field : OptionalField
no_field = field absent 0

abbrev pub no_part : OptionalPart
no_part = part absent 0 0

abbrev pub no_held : OptionalContainer
no_held = held absent 0 0 0 0

abbrev pub no_list : OptionalList
no_list = attributes absent 0 0

-- present ones
abbrev pub iid : OptionalField
iid = field there 6

abbrev pub ret : OptionalField
ret = field there 7

abbrev pub credentials : OptionalPart
credentials = part there 12 4

abbrev pub ids : OptionalPart
ids = part there 4 2

-- a string, and a list of two rows of which the second is a list
abbrev pub octets : OptionalContainer
octets = held there 2 2 4 0

abbrev pub list : OptionalContainer
list = held there 9 2 0 3

abbrev pub listed : OptionalList
listed = attributes there 2 3

-- ---- rows and entries

abbrev pub string_row : Row
string_row = row 1 2 1 16

abbrev pub ids_row : Row
ids_row = row 2 8 1 16

abbrev pub eid_row : Row
eid_row = row 3 7 0x21 0

abbrev pub list_row : Row
list_row = row 4 9 1 0

-- the three rows of a list of two, and one more
abbrev pub three : List Row
three = string_row ∷ list_row ∷ ids_row ∷ []

abbrev pub four : List Row
four = string_row ∷ list_row ∷ ids_row ∷ eid_row ∷ []

-- eid and list, a string, an eid alone
abbrev pub list_entry : Entry
list_entry = entry 11 (field there 8) (held there 9 1 0 1)

abbrev pub string_entry : Entry
string_entry = entry 12 no_field (held there 2 1 4 0)

abbrev pub eid_entry : Entry
eid_entry = entry 13 (field there 9) no_held

-- ---- cases

abbrev pub cases : List Case
cases =
    -- action request: absent credentials, parameter and iid are 0, each for itself
    tidy (action_request true credentials octets iid) [] []
    ∷ tidy (action_request true no_part no_held no_field) [] []
    ∷ tidy (action_request true credentials no_held no_field) [] []
    ∷ tidy (action_request true no_part octets no_field) [] []
    ∷ tidy (action_request true no_part no_held iid) [] []
    ∷ untidy (action_request true (part absent 12 0) octets iid) [] []
    ∷ untidy (action_request true (part absent 0 4) octets iid) [] []
    ∷ untidy (action_request true credentials (held absent 2 0 0 0) iid) [] []
    ∷ untidy (action_request true credentials (held absent 0 2 0 0) iid) [] []
    ∷ untidy (action_request true credentials (held absent 0 0 4 0) iid) [] []
    ∷ untidy (action_request true credentials (held absent 0 0 0 1) iid) [] []
    ∷ untidy (action_request true credentials octets (field absent 6)) [] []
    -- only a string and a list of ids have a start
    ∷ tidy (action_request true credentials (held there 8 2 4 0) iid) [] []
    ∷ untidy (action_request true credentials (held there 7 2 4 0) iid) [] []
    ∷ untidy (action_request true credentials (held there 9 0 4 0) iid) [] []
    ∷ untidy (action_request true credentials list iid) [] (string_row ∷ row 4 9 1 16 ∷ ids_row ∷ [])
    ∷ untidy (action_request true credentials list iid) [] (string_row ∷ list_row ∷ row 3 7 0x21 16 ∷ [])
    -- the rows that are not used are 0, and there are no entries
    ∷ tidy (action_request true credentials list iid) [] three
    ∷ tidy (action_request true credentials list iid) (empty_entry ∷ []) (string_row ∷ list_row ∷ eid_row ∷ empty_row ∷ [])
    ∷ untidy (action_request true credentials list iid) [] four
    ∷ untidy (action_request true credentials list iid) (empty_entry ∷ eid_entry ∷ []) three
    ∷ untidy (action_request true credentials list iid) (eid_entry ∷ []) three
    -- event request: the same
    ∷ tidy (event_request true credentials list iid) [] three
    ∷ untidy (event_request true credentials list iid) [] four
    ∷ untidy (event_request true credentials list iid) (eid_entry ∷ []) three
    ∷ untidy (event_request true credentials list (field absent 6)) [] three
    -- action response: absent iid, parameter and ret are 0
    ∷ tidy (action_response 1 iid octets ret) [] []
    ∷ tidy (action_response 1 no_field no_held no_field) [] []
    ∷ tidy (action_response 1 iid no_held no_field) [] []
    ∷ tidy (action_response 1 no_field octets no_field) [] []
    ∷ tidy (action_response 1 no_field no_held ret) [] []
    ∷ untidy (action_response 1 (field absent 6) octets ret) [] []
    ∷ untidy (action_response 1 iid (held absent 2 0 0 0) ret) [] []
    ∷ untidy (action_response 1 iid (held absent 0 2 0 0) ret) [] []
    ∷ untidy (action_response 1 iid (held absent 0 0 4 0) ret) [] []
    ∷ untidy (action_response 1 iid (held absent 0 0 0 1) ret) [] []
    ∷ untidy (action_response 1 iid octets (field absent 7)) [] []
    ∷ untidy (action_response 1 iid (held there 7 2 4 0) ret) [] []
    ∷ tidy (action_response 1 iid list ret) [] three
    ∷ untidy (action_response 1 iid list ret) [] four
    ∷ untidy (action_response 1 iid list ret) (eid_entry ∷ []) three
    -- event and set response: absent iid and ret are 0; no rows and no entries
    ∷ tidy (event_response 1 iid ret) [] []
    ∷ tidy (event_response 1 iid no_field) [] []
    ∷ tidy (event_response 1 no_field ret) [] []
    ∷ untidy (event_response 1 (field absent 6) ret) [] []
    ∷ untidy (event_response 1 iid (field absent 7)) [] []
    ∷ untidy (event_response 1 iid ret) [] (eid_row ∷ [])
    ∷ untidy (event_response 1 iid ret) (eid_entry ∷ []) []
    ∷ tidy (set_response 1 iid ret) [] []
    ∷ untidy (set_response 1 iid (field absent 7)) [] []
    ∷ untidy (set_response 1 iid ret) [] (eid_row ∷ [])
    ∷ untidy (set_response 1 iid ret) (eid_entry ∷ []) []
    -- set request: absent credentials and iid are 0; its list is always there
    ∷ tidy (set_request 1 true credentials 2 3 iid) [] three
    ∷ tidy (set_request 1 true credentials 2 3 no_field) [] three
    ∷ tidy (set_request 1 true no_part 2 3 iid) [] three
    ∷ untidy (set_request 1 true (part absent 12 0) 2 3 iid) [] three
    ∷ untidy (set_request 1 true (part absent 0 4) 2 3 iid) [] three
    ∷ untidy (set_request 1 true credentials 2 3 (field absent 6)) [] three
    ∷ untidy (set_request 1 true credentials 2 3 iid) [] four
    ∷ untidy (set_request 1 true credentials 2 3 iid) (eid_entry ∷ []) three
    -- get request: absent credentials, iid and id list are 0
    ∷ tidy (get_request 1 credentials iid ids) [] []
    ∷ tidy (get_request 1 credentials no_field no_part) [] []
    ∷ tidy (get_request 1 no_part iid no_part) [] []
    ∷ tidy (get_request 1 no_part no_field ids) [] []
    ∷ untidy (get_request 1 (part absent 12 0) iid ids) [] []
    ∷ untidy (get_request 1 (part absent 0 4) iid ids) [] []
    ∷ untidy (get_request 1 credentials (field absent 6) ids) [] []
    ∷ untidy (get_request 1 credentials iid (part absent 4 0)) [] []
    ∷ untidy (get_request 1 credentials iid (part absent 0 2)) [] []
    ∷ untidy (get_request 1 credentials iid ids) [] (eid_row ∷ [])
    ∷ untidy (get_request 1 credentials iid ids) (eid_entry ∷ []) []
    -- get response: absent iid, list and ret are 0
    ∷ tidy (get_response 1 iid listed ret) [] three
    ∷ tidy (get_response 1 iid no_list no_field) [] []
    ∷ tidy (get_response 1 no_field listed no_field) [] three
    ∷ tidy (get_response 1 no_field no_list ret) [] []
    ∷ untidy (get_response 1 (field absent 6) listed ret) [] three
    ∷ untidy (get_response 1 iid (attributes absent 2 0) ret) [] []
    ∷ untidy (get_response 1 iid (attributes absent 0 3) ret) [] []
    ∷ untidy (get_response 1 iid listed (field absent 7)) [] three
    ∷ untidy (get_response 1 iid listed ret) [] four
    ∷ untidy (get_response 1 iid listed ret) (eid_entry ∷ []) three
    -- BST: the others' count is 0 if they are absent; behind the entries of both lists and behind their rows all is 0
    ∷ tidy (bst 1 (field there 2) 4 3) (list_entry ∷ list_entry ∷ string_entry ∷ empty_entry ∷ []) (string_row ∷ ids_row ∷ empty_row ∷ [])
    ∷ tidy (bst 1 no_field 4 3) (eid_entry ∷ []) []
    ∷ untidy (bst 1 (field absent 2) 4 3) (eid_entry ∷ eid_entry ∷ eid_entry ∷ []) []
    ∷ untidy (bst 1 (field there 1) 4 3) (eid_entry ∷ eid_entry ∷ eid_entry ∷ []) []
    ∷ untidy (bst 1 (field there 2) 4 3) (list_entry ∷ list_entry ∷ string_entry ∷ []) (string_row ∷ ids_row ∷ eid_row ∷ [])
    ∷ untidy (bst 1 (field there 2) 4 3) (list_entry ∷ list_entry ∷ string_entry ∷ []) (string_row ∷ row 3 7 0x21 16 ∷ [])
    -- VST: the status is 0 if it is absent; its entries and rows as those of a BST
    ∷ tidy (vst 0 2 (field there 1)) (list_entry ∷ string_entry ∷ []) (string_row ∷ [])
    ∷ tidy (vst 0 2 no_field) (list_entry ∷ eid_entry ∷ []) (string_row ∷ [])
    ∷ untidy (vst 0 2 (field absent 1)) (list_entry ∷ eid_entry ∷ []) (string_row ∷ [])
    ∷ untidy (vst 0 1 (field there 1)) (list_entry ∷ eid_entry ∷ []) (string_row ∷ [])
    ∷ untidy (vst 0 1 (field there 1)) (list_entry ∷ []) (string_row ∷ ids_row ∷ [])
    -- an entry: absent eid and parameter are 0, and only a string and a list of ids have a start
    ∷ untidy (vst 0 1 no_field) (entry 11 (field absent 8) (held there 2 1 4 0) ∷ []) []
    ∷ untidy (vst 0 1 no_field) (entry 11 (field there 8) (held absent 2 0 0 0) ∷ []) []
    ∷ untidy (vst 0 1 no_field) (entry 11 (field there 8) (held absent 0 1 0 0) ∷ []) []
    ∷ untidy (vst 0 1 no_field) (entry 11 (field there 8) (held absent 0 0 4 0) ∷ []) []
    ∷ untidy (vst 0 1 no_field) (entry 11 (field there 8) (held absent 0 0 0 1) ∷ []) []
    ∷ untidy (vst 0 1 no_field) (entry 11 (field there 8) (held there 7 1 4 0) ∷ []) []
    ∷ []

-- what is proved: the tidy ones are tidy, the others are not
unfoldable pub Judged : Case → Type 0
Judged c = let T = message_tidy c.message c.entries c.rows in pick c.tidy T (T → ⊥)

unfoldable pub Each : List Case → Type 0
Each [] = Unit {0}
Each (c ∷ cs) = Judged c × Each cs

abbrev pub TidyCasesHold : Type 0
TidyCasesHold = Each cases

-- The values of a record, in the order of the message (specs/Table.antt of apdu_format): what writing writes and what reading has read. s are the lent
-- octets. A number is an extension bit 0 and the number; a string is its extension bit 0, its length and its bits; a list of ids is its count, the place
-- where it starts, and the octets that stand there.
-- Assumes nothing.
use Rattle.std.specs.Prelude.{ℕ, zero, suc, ◌+◌, ◌*◌, List, [], ◌∷◌, ◌++◌, Bool, true, false, take, drop, eqb}
use Rattle.refusals.specs.Check.{pick}
use Rattle.bits.specs.Bits.{bits}
use Rattle.apdu_format.specs.Component.{octet_string, attribute_id_list, integer}
use Rattle.apdu_format.specs.Rules.{shape}
use Rattle.apdu_format.specs.Reading.{Value, fields, string, value_at}
use Rattle.apdu.specs.declared.lists.Row.{Row}
use Rattle.apdu.specs.declared.lists.Entry.{Entry}
use Rattle.apdu.specs.declared.records.Request.{Request}
use Rattle.apdu.specs.declared.records.ActionResponse.{ActionResponse}
use Rattle.apdu.specs.declared.records.Response.{Response}
use Rattle.apdu.specs.declared.records.SetRequest.{SetRequest}
use Rattle.apdu.specs.declared.records.GetRequest.{GetRequest}
use Rattle.apdu.specs.declared.records.GetResponse.{GetResponse}
use Rattle.apdu.specs.declared.records.Bst.{Bst}
use Rattle.apdu.specs.declared.records.Vst.{Vst}
use Rattle.apdu.specs.declared.records.Message.{Message}
use Rattle.apdu.specs.declared.records.Message.TheVariants as kind

-- ---- fields

abbrev pub bit_of : Bool → ℕ
bit_of true = 1
bit_of false = 0

abbrev pub if : Bool → List Value → List Value
if p vs = pick p vs []

abbrev pub num : ℕ → Value
num n = fields (0 ∷ n ∷ [])

abbrev pub num_if : Bool → ℕ → List Value
num_if p n = if p (num n ∷ [])

-- the string of n octets from place start on
abbrev pub str : List ℕ → ℕ → ℕ → List Value
str s start n = fields (0 ∷ []) ∷ fields (n ∷ []) ∷ string start (take (8 * n) (drop start (bits s))) ∷ []

-- the number at place at, with its extension bit
abbrev pub id_at : List ℕ → ℕ → Value
id_at s at = value_at (shape integer) at (drop at (bits s))

-- n numbers from place at on
unfoldable pub ids_at : List ℕ → ℕ → ℕ → List Value
ids_at s at zero = []
ids_at s at (suc n) = ids_at s at n ++ (id_at s (at + 8 * n) ∷ [])

abbrev pub id_list : List ℕ → ℕ → ℕ → List Value
id_list s start n = num n ∷ string start [] ∷ ids_at s start n

-- ---- containers, rows and entries

-- a container up to its rows: n is a string's length, an EID, or a count of ids or rows
unfoldable pub head_values : List ℕ → ℕ → ℕ → ℕ → List Value
head_values s kind n start = num kind ∷ pick (eqb kind octet_string) (str s start n) (pick (eqb kind attribute_id_list) (id_list s start n) (num n ∷ []))

unfoldable pub row_values : List ℕ → Row → List Value
row_values s r = num r.id ∷ head_values s r.kind r.n r.start

unfoldable pub rows_values : List ℕ → List Row → List Value
rows_values s [] = []
rows_values s (r ∷ rs) = row_values s r ++ rows_values s rs

-- a container with its rows
abbrev pub container_values : List ℕ → ℕ → ℕ → ℕ → List Row → List Value
container_values s kind n start rs = head_values s kind n start ++ rows_values s rs

unfoldable pub entry_values : List ℕ → Entry → List Row → List Value
entry_values s e rs =
    (fields (bit_of e.has_eid ∷ bit_of e.has_parameter ∷ 0 ∷ e.aid ∷ []) ∷ [])
    ++ (num_if e.has_eid e.eid ++ if e.has_parameter (container_values s e.kind e.n e.start rs))

-- the rows that belong to an entry: those of its parameter, if that is there
unfoldable pub entry_rows : Entry → ℕ
entry_rows e = pick e.has_parameter e.rows 0

-- entries, each with its own rows
unfoldable pub entries_values : List ℕ → List Entry → List Row → List Value
entries_values s [] rs = []
entries_values s (e ∷ es) rs = entry_values s e (take (entry_rows e) rs) ++ entries_values s es (drop (entry_rows e) rs)

-- how many rows they have
unfoldable pub rows_of : List Entry → ℕ
rows_of [] = 0
rows_of (e ∷ es) = entry_rows e + rows_of es

-- a list of entries with its count
abbrev pub list_values : List ℕ → ℕ → List Entry → List Row → List Value
list_values s n es rs = num n ∷ entries_values s es (take (rows_of es) rs)

-- ---- messages: the leading part behind the choice, then the components in Annex A's order

unfoldable pub request_values : List ℕ → Request → List Row → List Value
request_values s m rs =
    (fields (bit_of m.has_credentials ∷ bit_of m.has_parameter ∷ bit_of m.has_iid ∷ bit_of m.mode ∷ []) ∷ [])
    ++ ((num m.eid ∷ [])
    ++ ((num m.service ∷ [])
    ++ (if m.has_credentials (str s m.credentials m.credentials_length)
    ++ (if m.has_parameter (container_values s m.kind m.n m.start (take m.rows rs))
    ++ (num_if m.has_iid m.iid ++ [])))))

unfoldable pub action_response_values : List ℕ → ActionResponse → List Row → List Value
action_response_values s m rs =
    (fields (bit_of m.has_iid ∷ bit_of m.has_parameter ∷ bit_of m.has_ret ∷ m.fill ∷ []) ∷ [])
    ++ ((num m.eid ∷ [])
    ++ (num_if m.has_iid m.iid
    ++ (if m.has_parameter (container_values s m.kind m.n m.start (take m.rows rs)) ++ (num_if m.has_ret m.ret ++ []))))

unfoldable pub response_values : Response → List Value
response_values m =
    (fields (bit_of m.has_iid ∷ bit_of m.has_ret ∷ m.fill ∷ []) ∷ [])
    ++ ((num m.eid ∷ []) ++ (num_if m.has_iid m.iid ++ (num_if m.has_ret m.ret ++ [])))

unfoldable pub set_request_values : List ℕ → SetRequest → List Row → List Value
set_request_values s m rs =
    (fields (bit_of m.has_credentials ∷ bit_of m.has_iid ∷ m.fill ∷ bit_of m.mode ∷ []) ∷ [])
    ++ ((num m.eid ∷ [])
    ++ (if m.has_credentials (str s m.credentials m.credentials_length)
    ++ ((num m.count ∷ rows_values s (take m.rows rs)) ++ (num_if m.has_iid m.iid ++ []))))

unfoldable pub get_request_values : List ℕ → GetRequest → List Value
get_request_values s m =
    (fields (bit_of m.has_credentials ∷ bit_of m.has_iid ∷ bit_of m.has_ids ∷ m.fill ∷ []) ∷ [])
    ++ ((num m.eid ∷ [])
    ++ (if m.has_credentials (str s m.credentials m.credentials_length)
    ++ (num_if m.has_iid m.iid ++ (if m.has_ids (id_list s m.ids m.count) ++ []))))

unfoldable pub get_response_values : List ℕ → GetResponse → List Row → List Value
get_response_values s m rs =
    (fields (bit_of m.has_iid ∷ bit_of m.has_attributes ∷ bit_of m.has_ret ∷ m.fill ∷ []) ∷ [])
    ++ ((num m.eid ∷ [])
    ++ (num_if m.has_iid m.iid
    ++ (if m.has_attributes (num m.count ∷ rows_values s (take m.rows rs)) ++ (num_if m.has_ret m.ret ++ []))))

-- the first n entries, and those behind them
unfoldable pub bst_values : List ℕ → Bst → List Entry → List Row → List Value
bst_values s m es rs =
    let first = take m.mandatory es in
    (fields (bit_of m.has_others ∷ m.manufacturer ∷ m.individual ∷ []) ∷ [])
    ++ ((fields (m.time ∷ []) ∷ [])
    ++ ((num m.profile ∷ [])
    ++ (list_values s m.mandatory first rs
    ++ (if m.has_others (list_values s m.others (take m.others (drop m.mandatory es)) (drop (rows_of first) rs))
    ++ (id_list s m.profiles m.profile_count ++ [])))))

unfoldable pub vst_values : List ℕ → Vst → List Entry → List Row → List Value
vst_values s m es rs =
    (fields (m.fill ∷ []) ∷ [])
    ++ ((num m.profile ∷ [])
    ++ (list_values s m.applications (take m.applications es) rs
    ++ ((fields (bit_of m.has_status ∷ m.class ∷ []) ∷ fields (m.maker ∷ []) ∷ if m.has_status (fields (m.status ∷ []) ∷ [])) ++ [])))

-- a message with its choice
unfoldable pub values_of : List ℕ → Message → List Entry → List Row → List Value
values_of s (kind.ActionRequest m) es rs = fields (0 ∷ []) ∷ request_values s m rs
values_of s (kind.ActionResponse m) es rs = fields (1 ∷ []) ∷ action_response_values s m rs
values_of s (kind.EventRequest m) es rs = fields (2 ∷ []) ∷ request_values s m rs
values_of s (kind.EventResponse m) es rs = fields (3 ∷ []) ∷ response_values m
values_of s (kind.SetRequest m) es rs = fields (4 ∷ []) ∷ set_request_values s m rs
values_of s (kind.SetResponse m) es rs = fields (5 ∷ []) ∷ response_values m
values_of s (kind.GetRequest m) es rs = fields (6 ∷ []) ∷ get_request_values s m
values_of s (kind.GetResponse m) es rs = fields (7 ∷ []) ∷ get_response_values s m rs
values_of s (kind.Bst m) es rs = fields (8 ∷ []) ∷ bst_values s m es rs
values_of s (kind.Vst m) es rs = fields (9 ∷ []) ∷ vst_values s m es rs

-- ---- unused rows and entries

abbrev pub empty_row : Row
empty_row = record { id = 0; kind = 0; n = 0; start = 0 }

abbrev pub empty_entry : Entry
empty_entry = record { has_eid = false; has_parameter = false; aid = 0; eid = 0; kind = 0; n = 0; start = 0; rows = 0 }

-- Absent fields and unused rows are 0 (01, "Messages"): what reading says of a record besides its values.
-- Assumes nothing.
use Rattle.std.specs.Prelude.{ℕ, ◌+◌, ◌≤◌, ◌≡◌, List, [], ◌∷◌, Bool, false, ◌||◌, get_or, take, eqb}
use Rattle.apdu_format.specs.Component.{octet_string, attribute_id_list}
use Rattle.apdu.specs.declared.lists.Row.{Row}
use Rattle.apdu.specs.declared.lists.Entry.{Entry}
use Rattle.apdu.specs.declared.records.Request.{Request}
use Rattle.apdu.specs.declared.records.ActionResponse.{ActionResponse}
use Rattle.apdu.specs.declared.records.Response.{Response}
use Rattle.apdu.specs.declared.records.SetRequest.{SetRequest}
use Rattle.apdu.specs.declared.records.GetRequest.{GetRequest}
use Rattle.apdu.specs.declared.records.GetResponse.{GetResponse}
use Rattle.apdu.specs.declared.records.Bst.{Bst}
use Rattle.apdu.specs.declared.records.Vst.{Vst}
use Rattle.apdu.specs.declared.records.Message.{Message}
use Rattle.apdu.specs.declared.records.Message.TheVariants as kind
use Rattle.apdu.specs.Values.{rows_of, empty_row, empty_entry}

-- numbers that are 0
abbrev pub zeros : List ℕ → Type 0
zeros [] = Unit {0}
zeros (n ∷ ns) = (n ≡ 0) × zeros ns

-- numbers that are 0 where they are absent
pub record Absent (p : Bool) (ns : List ℕ) : Type 0 where
  pub are : p ≡ false → zeros ns

-- a container has a start only where it holds octets or ids
abbrev pub start_tidy : ℕ → ℕ → Type 0
start_tidy kind start = Absent (eqb kind octet_string || eqb kind attribute_id_list) (start ∷ [])

abbrev pub row_tidy : Row → Type 0
row_tidy r = start_tidy r.kind r.start

-- each row is tidy, and from the used ones on they are empty
pub record RowsTidy (used : ℕ) (rs : List Row) : Type 0 where
  pub each : (j : ℕ) → row_tidy (get_or rs j empty_row)
  pub rest : (j : ℕ) → used ≤ j → get_or rs j empty_row ≡ empty_row

pub record EntriesTidy (used : ℕ) (es : List Entry) : Type 0 where
  pub rest : (j : ℕ) → used ≤ j → get_or es j empty_entry ≡ empty_entry

abbrev pub request_tidy : Request → Type 0
request_tidy m =
    Absent m.has_credentials (m.credentials ∷ m.credentials_length ∷ []) × Absent m.has_parameter (m.kind ∷ m.n ∷ m.start ∷ m.rows ∷ [])
    × Absent m.has_iid (m.iid ∷ []) × start_tidy m.kind m.start

abbrev pub action_response_tidy : ActionResponse → Type 0
action_response_tidy m =
    Absent m.has_iid (m.iid ∷ []) × Absent m.has_parameter (m.kind ∷ m.n ∷ m.start ∷ m.rows ∷ []) × Absent m.has_ret (m.ret ∷ [])
    × start_tidy m.kind m.start

abbrev pub response_tidy : Response → Type 0
response_tidy m = Absent m.has_iid (m.iid ∷ []) × Absent m.has_ret (m.ret ∷ [])

abbrev pub set_request_tidy : SetRequest → Type 0
set_request_tidy m = Absent m.has_credentials (m.credentials ∷ m.credentials_length ∷ []) × Absent m.has_iid (m.iid ∷ [])

abbrev pub get_request_tidy : GetRequest → Type 0
get_request_tidy m =
    Absent m.has_credentials (m.credentials ∷ m.credentials_length ∷ []) × Absent m.has_iid (m.iid ∷ []) × Absent m.has_ids (m.ids ∷ m.count ∷ [])

abbrev pub get_response_tidy : GetResponse → Type 0
get_response_tidy m =
    Absent m.has_iid (m.iid ∷ []) × Absent m.has_attributes (m.count ∷ m.rows ∷ []) × Absent m.has_ret (m.ret ∷ [])

abbrev pub bst_tidy : Bst → Type 0
bst_tidy m = Absent m.has_others (m.others ∷ [])

abbrev pub vst_tidy : Vst → Type 0
vst_tidy m = Absent m.has_status (m.status ∷ [])

abbrev pub entry_tidy : Entry → Type 0
entry_tidy e =
    Absent e.has_eid (e.eid ∷ []) × Absent e.has_parameter (e.kind ∷ e.n ∷ e.start ∷ e.rows ∷ []) × start_tidy e.kind e.start

-- of n entries each is tidy, and what is behind them and their rows is empty
pub record ListsTidy (n : ℕ) (es : List Entry) (rs : List Row) : Type 0 where
  pub each : (j : ℕ) → entry_tidy (get_or es j empty_entry)
  pub entries : EntriesTidy n es
  pub rows : RowsTidy (rows_of (take n es)) rs

-- a message with what stands beside it
unfoldable pub message_tidy : Message → List Entry → List Row → Type 0
message_tidy (kind.ActionRequest m) es rs = request_tidy m × EntriesTidy 0 es × RowsTidy m.rows rs
message_tidy (kind.ActionResponse m) es rs = action_response_tidy m × EntriesTidy 0 es × RowsTidy m.rows rs
message_tidy (kind.EventRequest m) es rs = request_tidy m × EntriesTidy 0 es × RowsTidy m.rows rs
message_tidy (kind.EventResponse m) es rs = response_tidy m × EntriesTidy 0 es × RowsTidy 0 rs
message_tidy (kind.SetRequest m) es rs = set_request_tidy m × EntriesTidy 0 es × RowsTidy m.rows rs
message_tidy (kind.SetResponse m) es rs = response_tidy m × EntriesTidy 0 es × RowsTidy 0 rs
message_tidy (kind.GetRequest m) es rs = get_request_tidy m × EntriesTidy 0 es × RowsTidy 0 rs
message_tidy (kind.GetResponse m) es rs = get_response_tidy m × EntriesTidy 0 es × RowsTidy m.rows rs
message_tidy (kind.Bst m) es rs = bst_tidy m × ListsTidy (m.mandatory + m.others) es rs
message_tidy (kind.Vst m) es rs = vst_tidy m × ListsTidy m.applications es rs

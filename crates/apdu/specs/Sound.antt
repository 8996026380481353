-- What a record must meet besides the ranges of its values (01, row 23): each part of the lent octets lies inside them; each attribute list has as
-- many rows as its counts announce, nested ones too; and the rows of what is present, summed over the entries, are at most 32. Absent fields and unused
-- rows are passed over.
-- Assumes nothing.
use Rattle.std.specs.Prelude.{ℕ, zero, suc, ◌+◌, List, [], ◌∷◌, Bool, true, false, ◌&&◌, length, take, drop, eqb, leb}
use Rattle.refusals.specs.Check.{pick}
use Rattle.bits.specs.Strings.{is_inside}
use Rattle.apdu_format.specs.Limits.{most_rows}
use Rattle.apdu_format.specs.Component.{octet_string, attribute_id_list, attribute_list}
use Rattle.apdu_format.specs.Writing.{in_range}
use Rattle.apdu.specs.declared.lists.Row.{Row}
use Rattle.apdu.specs.declared.lists.Entry.{Entry}
use Rattle.apdu.specs.declared.records.Request.{Request}
use Rattle.apdu.specs.declared.records.ActionResponse.{ActionResponse}
use Rattle.apdu.specs.declared.records.SetRequest.{SetRequest}
use Rattle.apdu.specs.declared.records.GetRequest.{GetRequest}
use Rattle.apdu.specs.declared.records.GetResponse.{GetResponse}
use Rattle.apdu.specs.declared.records.Bst.{Bst}
use Rattle.apdu.specs.declared.records.Vst.{Vst}
use Rattle.apdu.specs.declared.records.Message.{Message}
use Rattle.apdu.specs.declared.records.Message.TheVariants as kind
use Rattle.apdu.specs.Values.{entry_rows, rows_of, values_of}

-- whether the lent octets, so many of them, hold the string or the ids of a container
unfoldable pub part_fits : (octets kind n start : ℕ) → Bool
part_fits octets kind n start = pick (eqb kind octet_string) (is_inside octets start n) (pick (eqb kind attribute_id_list) (is_inside octets start n) true)

-- the rows that a container announces
abbrev pub nested : ℕ → ℕ → ℕ
nested kind n = pick (eqb kind attribute_list) n 0

unfoldable pub parts_fit : ℕ → List Row → Bool
parts_fit octets [] = true
parts_fit octets (r ∷ rs) = part_fits octets r.kind r.n r.start && parts_fit octets rs

-- these are the n rows of a list, each followed by the rows of its own list
unfoldable pub closes : ℕ → List Row → Bool
closes zero [] = true
closes zero (r ∷ rs) = false
closes (suc n) [] = false
closes (suc n) (r ∷ rs) = closes (nested r.kind r.n + n) rs

unfoldable pub rows_sound : ℕ → ℕ → List Row → Bool
rows_sound octets n rs = parts_fit octets rs && closes n rs

unfoldable pub container_sound : ℕ → ℕ → ℕ → ℕ → List Row → Bool
container_sound octets kind n start rs = part_fits octets kind n start && rows_sound octets (nested kind n) rs

abbrev pub sound_if : Bool → Bool → Bool
sound_if p b = pick p b true

unfoldable pub entry_sound : ℕ → Entry → List Row → Bool
entry_sound octets e rs = sound_if e.has_parameter (container_sound octets e.kind e.n e.start rs)

unfoldable pub entries_sound : ℕ → List Entry → List Row → Bool
entries_sound octets [] rs = true
entries_sound octets (e ∷ es) rs = entry_sound octets e (take (entry_rows e) rs) && entries_sound octets es (drop (entry_rows e) rs)

-- ---- messages

unfoldable pub request_sound : ℕ → Request → List Row → Bool
request_sound octets m rs =
    sound_if m.has_credentials (is_inside octets m.credentials m.credentials_length)
    && sound_if m.has_parameter (container_sound octets m.kind m.n m.start (take m.rows rs))

unfoldable pub action_response_sound : ℕ → ActionResponse → List Row → Bool
action_response_sound octets m rs = sound_if m.has_parameter (container_sound octets m.kind m.n m.start (take m.rows rs))

unfoldable pub set_request_sound : ℕ → SetRequest → List Row → Bool
set_request_sound octets m rs =
    sound_if m.has_credentials (is_inside octets m.credentials m.credentials_length) && rows_sound octets m.count (take m.rows rs)

unfoldable pub get_request_sound : ℕ → GetRequest → Bool
get_request_sound octets m =
    sound_if m.has_credentials (is_inside octets m.credentials m.credentials_length) && sound_if m.has_ids (is_inside octets m.ids m.count)

unfoldable pub get_response_sound : ℕ → GetResponse → List Row → Bool
get_response_sound octets m rs = sound_if m.has_attributes (rows_sound octets m.count (take m.rows rs))

unfoldable pub bst_sound : ℕ → Bst → List Entry → List Row → Bool
bst_sound octets m es rs =
    let first = take m.mandatory es in
    entries_sound octets first (take (rows_of first) rs)
    && (sound_if m.has_others (entries_sound octets (take m.others (drop m.mandatory es)) (drop (rows_of first) rs))
    && is_inside octets m.profiles m.profile_count)

unfoldable pub vst_sound : ℕ → Vst → List Entry → List Row → Bool
vst_sound octets m es rs = entries_sound octets (take m.applications es) rs

unfoldable pub sound : ℕ → Message → List Entry → List Row → Bool
sound octets (kind.ActionRequest m) es rs = request_sound octets m rs
sound octets (kind.ActionResponse m) es rs = action_response_sound octets m rs
sound octets (kind.EventRequest m) es rs = request_sound octets m rs
sound octets (kind.EventResponse m) es rs = true
sound octets (kind.SetRequest m) es rs = set_request_sound octets m rs
sound octets (kind.SetResponse m) es rs = true
sound octets (kind.GetRequest m) es rs = get_request_sound octets m
sound octets (kind.GetResponse m) es rs = get_response_sound octets m rs
sound octets (kind.Bst m) es rs = bst_sound octets m es rs
sound octets (kind.Vst m) es rs = vst_sound octets m es rs

-- ---- the limit of rows

-- so many, if they are there
abbrev pub count_if : Bool → ℕ → ℕ
count_if p n = pick p n 0

-- the rows of what is present, summed over the entries
unfoldable pub rows_present : Message → List Entry → ℕ
rows_present (kind.ActionRequest m) es = count_if m.has_parameter m.rows
rows_present (kind.ActionResponse m) es = count_if m.has_parameter m.rows
rows_present (kind.EventRequest m) es = count_if m.has_parameter m.rows
rows_present (kind.EventResponse m) es = 0
rows_present (kind.SetRequest m) es = m.rows
rows_present (kind.SetResponse m) es = 0
rows_present (kind.GetRequest m) es = 0
rows_present (kind.GetResponse m) es = count_if m.has_attributes m.rows
rows_present (kind.Bst m) es =
    rows_of (take m.mandatory es) + count_if m.has_others (rows_of (take m.others (drop m.mandatory es)))
rows_present (kind.Vst m) es = rows_of (take m.applications es)

unfoldable pub rows_fit : Message → List Entry → Bool
rows_fit m es = leb (rows_present m es) most_rows

-- a record that does not break the condition of 23: every value of what is present is in range, every part and list is sound, and the rows keep the limit
unfoldable pub well_formed : List ℕ → Message → List Entry → List Row → Bool
well_formed s m es rs = in_range (values_of s m es rs) && (sound (length s) m es rs && rows_fit m es)

-- The request call (01, "Reading and setting attributes"): which requests are served, their return status, the reply, and what a SET writes. s are the
-- request's octets. A reply is a record of one of the ten messages, and 01's writing makes its octets. Statuses are found as refusals are: they stand in
-- the order of 01, and the first that holds is given.
-- Assumes nothing.
use Rattle.std.specs.Prelude.{ℕ, zero, suc, ◌+◌, ◌*◌, Bool, true, false, not, ◌&&◌, ◌||◌, ◌≡◌, List, [], ◌∷◌, ◌++◌, ltb, eqb, length, take, drop, replicate}
use Rattle.refusals.specs.Check.{pick, Check, check, first_of}
use Rattle.bits.specs.Bits.{field}
use Rattle.bits.specs.Strings.{same_string, copy_string}
use Rattle.apdu_format.specs.Component.{octet_string}
use Rattle.apdu.specs.declared.lists.Row as attribute
use Rattle.apdu.specs.declared.lists.Entry.{Entry}
use Rattle.apdu.specs.declared.records.Request.{Request}
use Rattle.apdu.specs.declared.records.SetRequest.{SetRequest}
use Rattle.apdu.specs.declared.records.GetRequest.{GetRequest}
use Rattle.apdu.specs.declared.records.Message.{Message}
use Rattle.apdu.specs.declared.records.Message.TheVariants as kind
use Rattle.apdu.specs.Values.{empty_row, empty_entry}
use Rattle.apdu_reading.specs.declared.front.Answer.{Answer}
use Rattle.apdu_reading.specs.declared.front.Answer.TheVariants as answer
use Rattle.apdu_reading.specs.declared.front.Reading.{Reading}
use Rattle.apdu_reading.specs.Answers.{Reads}
use Rattle.apdu_writing.specs.Answer as writing
use Rattle.apdu_writing.specs.Answer.{write_answer, write_output}
use Rattle.directory.specs.declared.Row.{Row}
use Rattle.directory.specs.Directory.{known_in, row_of, sound_directory}
use Rattle.attributes.specs.declared.answers.RequestOutcome.{RequestOutcome}
use Rattle.attributes.specs.declared.answers.RequestOutcome.TheVariants as told
use Rattle.attributes.specs.declared.answers.RequestAnswer.{RequestAnswer}

-- an attribute of a message's list
abbrev pub Attribute : Type 0
Attribute = attribute.Row

-- the octets that a reply may need (1)
abbrev pub least_output : ℕ
least_output = 512

-- the action type of ECHO
abbrev pub echo_action : ℕ
echo_action = 15

-- ---- served (24)

-- action 15, eid 0, octet string, mode 1; credentials are ignored
unfoldable pub is_echo : Request → Bool
is_echo m = eqb m.service echo_action && (eqb m.eid 0 && (m.mode && (m.has_parameter && eqb m.kind octet_string)))

-- GET; SET; ECHO
unfoldable pub served : Message → Bool
served (kind.ActionRequest m) = is_echo m
served (kind.ActionResponse m) = false
served (kind.EventRequest m) = false
served (kind.EventResponse m) = false
served (kind.SetRequest m) = true
served (kind.SetResponse m) = false
served (kind.GetRequest m) = true
served (kind.GetResponse m) = false
served (kind.Bst m) = false
served (kind.Vst m) = false

-- ---- the tag

pub record Tag : Type 0 where
  pub eid : ℕ
  pub credentials : List ℕ
  pub directory : List Row
  pub factory : List ℕ
  pub writable : List ℕ

-- the request carries exactly the tag's credentials: n octets from place start, if they are given
unfoldable pub exact : List ℕ → List ℕ → Bool → ℕ → ℕ → Bool
exact s credentials given start n = given && (eqb n (length credentials) && same_string s start credentials 0 n)

-- ---- return status

-- a protected row, without the tag's credentials
unfoldable pub denied : Bool → Row → Bool
denied exact row = row.protected && not exact

-- an id: unknown; denied
unfoldable pub get_fault : List Row → Bool → ℕ → List Check
get_fault rows exact id = check 2 (not (known_in id rows)) ∷ check 1 (denied exact (row_of id rows)) ∷ []

unfoldable pub get_faults : List Row → Bool → List ℕ → List Check
get_faults rows exact [] = []
get_faults rows exact (id ∷ ids) = get_fault rows exact id ++ get_faults rows exact ids

-- an attribute: unknown, another kind, another length; denied, a factory row
unfoldable pub set_fault : List Row → Bool → Attribute → List Check
set_fault rows exact a =
    let row = row_of a.id rows in
    check 2 (not (known_in a.id rows) || (not (eqb a.kind octet_string) || not (eqb a.n row.length)))
    ∷ check 1 (denied exact row || not row.writable)
    ∷ []

unfoldable pub set_faults : List Row → Bool → List Attribute → List Check
set_faults rows exact [] = []
set_faults rows exact (a ∷ rest) = set_fault rows exact a ++ set_faults rows exact rest

-- the n ids from place at on, each behind its extension bit
unfoldable pub ids_from : List ℕ → ℕ → ℕ → List ℕ
ids_from s at zero = []
ids_from s at (suc n) = field s (at + 1) 7 ∷ ids_from s (at + 8) n

-- wrong eid; no id list; the first faulty row
unfoldable pub get_status : Tag → List ℕ → GetRequest → ℕ
get_status tag s m =
    let sure = exact s tag.credentials m.has_credentials m.credentials m.credentials_length in
    first_of (check 2 (not (eqb m.eid tag.eid)) ∷ check 2 (not m.has_ids) ∷ get_faults tag.directory sure (ids_from s m.ids m.count))

-- wrong eid; the first faulty row. Attributes lie flat, a list before its own; one that is a list is faulty itself, so none behind it is reached
unfoldable pub set_status : Tag → List ℕ → SetRequest → List Attribute → ℕ
set_status tag s m attributes =
    let sure = exact s tag.credentials m.has_credentials m.credentials m.credentials_length in
    first_of (check 2 (not (eqb m.eid tag.eid)) ∷ set_faults tag.directory sure (take m.count attributes))

-- ---- what a SET writes: the value of each attribute in turn to its row, so that of two equal ids the later stays

unfoldable pub set_row : List ℕ → List Row → Attribute → List ℕ → List ℕ
set_row s rows a writable = copy_string s a.start a.n writable (row_of a.id rows).start

unfoldable pub set_rows : List ℕ → List Row → List Attribute → List ℕ → List ℕ
set_rows s rows [] writable = writable
set_rows s rows (a ∷ rest) writable = set_rows s rows rest (set_row s rows a writable)

-- ---- replies

-- a message, the attributes beside it, and the octets in which its strings stand
pub record Reply : Type 0 where
  pub message : Message
  pub attributes : List Attribute
  pub lent : List ℕ

abbrev pub no_attributes : List Attribute
no_attributes = replicate 32 empty_row

abbrev pub no_entries : List Entry
no_entries = replicate 32 empty_entry

-- the octets of a row
unfoldable pub value_of : List ℕ → List ℕ → Row → List ℕ
value_of factory writable row = take row.length (drop row.start (pick row.writable writable factory))

-- the values of rows, one behind the other
unfoldable pub values_in : List ℕ → List ℕ → List Row → List ℕ
values_in factory writable [] = []
values_in factory writable (row ∷ rows) = value_of factory writable row ++ values_in factory writable rows

-- and the attributes that say so, of which the first stands at octet at
unfoldable pub attributes_at : ℕ → List Row → List Attribute
attributes_at at [] = []
attributes_at at (row ∷ rows) = record { id = row.id; kind = octet_string; n = row.length; start = 8 * at } ∷ attributes_at (at + row.length) rows

unfoldable pub rows_of : List Row → List ℕ → List Row
rows_of rows [] = []
rows_of rows (id ∷ ids) = row_of id rows ∷ rows_of rows ids

-- eid and iid of the request, with fill 0, and the values
unfoldable pub get_reply : Tag → List ℕ → GetRequest → Reply
get_reply tag s m =
    let rows = rows_of tag.directory (ids_from s m.ids m.count) in
    record {
      message = kind.GetResponse (record {
        fill = 0;
        eid = m.eid;
        has_iid = m.has_iid;
        iid = m.iid;
        has_attributes = true;
        count = m.count;
        rows = m.count;
        has_ret = false;
        ret = 0;
      });
      attributes = attributes_at 0 rows;
      lent = values_in tag.factory tag.writable rows;
    }

-- a status and no list
unfoldable pub get_refusal : List ℕ → GetRequest → ℕ → Reply
get_refusal s m status =
    record {
      message = kind.GetResponse (record {
        fill = 0;
        eid = m.eid;
        has_iid = m.has_iid;
        iid = m.iid;
        has_attributes = false;
        count = 0;
        rows = 0;
        has_ret = true;
        ret = status;
      });
      attributes = no_attributes;
      lent = s;
    }

unfoldable pub set_reply : List ℕ → SetRequest → ℕ → Reply
set_reply s m status =
    record {
      message = kind.SetResponse (record { fill = 0; eid = m.eid; has_iid = m.has_iid; iid = m.iid; has_ret = true; ret = status });
      attributes = no_attributes;
      lent = s;
    }

-- the same string, and no status
unfoldable pub echo_reply : List ℕ → Request → Reply
echo_reply s m =
    record {
      message = kind.ActionResponse (record {
        fill = 0;
        eid = m.eid;
        has_iid = m.has_iid;
        iid = m.iid;
        has_parameter = true;
        kind = m.kind;
        n = m.n;
        start = m.start;
        rows = 0;
        has_ret = false;
        ret = 0;
      });
      attributes = no_attributes;
      lent = s;
    }

-- ---- the call

-- a refusal, with its position where it has one; no reply; or a reply of so many octets at the output's front
pub data Outcome : Type 0 where
  refused : ℕ → Outcome
  refused_at : ℕ → ℕ → Outcome
  silent : Outcome
  replied : ℕ → Outcome

-- what a call answers, and the writable area and the output afterwards
pub record Effect : Type 0 where
  pub outcome : Outcome
  pub writable : List ℕ
  pub output : List ℕ

abbrev pub effect : Outcome → List ℕ → List ℕ → Effect
effect o w out = record { outcome = o; writable = w; output = out }

-- the reply is written as 01 says; what writing would refuse is passed on
unfoldable pub writes : writing.Answer → Outcome
writes (writing.refused k) = refused k
writes (writing.refused_at k p) = refused_at k p
writes (writing.octets n) = replied n

unfoldable pub sent : Reply → List ℕ → List ℕ → Effect
sent r w out =
    effect (writes (write_answer r.lent r.message no_entries r.attributes (length out))) w (write_output r.lent r.message no_entries r.attributes out)

-- over 512 octets
unfoldable pub too_long : Outcome → Bool
too_long (refused k) = false
too_long (refused_at k p) = eqb k 21
too_long silent = false
too_long (replied n) = false

-- the values if no fault is found; over 512 octets is 3
unfoldable pub getting : Tag → List ℕ → GetRequest → List ℕ → Effect
getting tag s m out =
    let status = get_status tag s m in
    let values = sent (get_reply tag s m) tag.writable out in
    pick (eqb status 0)
    (pick (too_long values.outcome) (sent (get_refusal s m 3) tag.writable out) values)
    (sent (get_refusal s m status) tag.writable out)

-- all rows or none; with mode 0 no reply
unfoldable pub setting : Tag → List ℕ → SetRequest → List Attribute → List ℕ → Effect
setting tag s m attributes out =
    let status = set_status tag s m attributes in
    let written = pick (eqb status 0) (set_rows s tag.directory (take m.count attributes) tag.writable) tag.writable in
    pick m.mode (sent (set_reply s m status) written out) (effect silent written out)

-- a request that is served
unfoldable pub carried : Tag → List ℕ → Message → List Attribute → List ℕ → Effect
carried tag s (kind.ActionRequest m) attributes out = sent (echo_reply s m) tag.writable out
carried tag s (kind.ActionResponse m) attributes out = effect (refused 24) tag.writable out
carried tag s (kind.EventRequest m) attributes out = effect (refused 24) tag.writable out
carried tag s (kind.EventResponse m) attributes out = effect (refused 24) tag.writable out
carried tag s (kind.SetRequest m) attributes out = setting tag s m attributes out
carried tag s (kind.SetResponse m) attributes out = effect (refused 24) tag.writable out
carried tag s (kind.GetRequest m) attributes out = getting tag s m out
carried tag s (kind.GetResponse m) attributes out = effect (refused 24) tag.writable out
carried tag s (kind.Bst m) attributes out = effect (refused 24) tag.writable out
carried tag s (kind.Vst m) attributes out = effect (refused 24) tag.writable out

-- reading's refusals; 24
unfoldable pub by_reading : Tag → List ℕ → Answer → List Attribute → List ℕ → Effect
by_reading tag s (answer.Refused k p) attributes out = effect (refused_at k p) tag.writable out
by_reading tag s (answer.Message m) attributes out = pick (served m) (carried tag s m attributes out) (effect (refused 24) tag.writable out)

-- 1; 26; reading's; 24
unfoldable pub requested : Tag → List ℕ → Reading → List ℕ → Effect
requested tag s reading out =
    let first = first_of (check 1 (ltb (length out) least_output) ∷ check 26 (not (sound_directory (length tag.factory) (length tag.writable) tag.directory)) ∷ []) in
    pick (eqb first 0) (by_reading tag s reading.answer reading.lists.rows out) (effect (refused first) tag.writable out)

-- 01's number, position and values for each case of the answer
unfoldable pub told_of : RequestOutcome → Outcome
told_of (told.Refused k) = refused k
told_of (told.RefusedAt k p) = refused_at k p
told_of told.NoReply = silent
told_of (told.Reply n) = replied n

-- the call's answer r, its writable area w and its output out' afterwards are those of the definition, for the record that reading makes of s; every record
-- that meets reading's contract gives the same ones (OneEffect and Determined in attribute_promises)
pub record Answered (tag : Tag) (s out : List ℕ) (r : RequestAnswer) (w out' : List ℕ) : Type 0 where
  pub reading : Reading
  pub reads : Reads s reading
  pub is : effect (told_of r.outcome) w out' ≡ requested tag s reading out

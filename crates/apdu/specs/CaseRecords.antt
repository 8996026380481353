-- Records for the computed cases (ValueCases, SoundCases, TidyCases): each message from the parts that its cases vary;
-- what they leave is filled with numbers that differ, so that no field can stand for another.
-- Assumes nothing.
use Rattle.std.specs.Prelude.{ℕ, List, [], ◌∷◌, Bool, true, false}
use Rattle.apdu.specs.declared.lists.Row.{Row}
use Rattle.apdu.specs.declared.lists.Entry.{Entry}
use Rattle.apdu.specs.declared.records.Request.{Request}
use Rattle.apdu.specs.declared.records.Response.{Response}
use Rattle.apdu.specs.declared.records.Message.{Message}
use Rattle.apdu.specs.declared.records.Message.TheVariants as kind

-- the octets in which all strings stand: from bit place 4 on they read 12 34 56 .., from place 12 on 34 56 78 9A
abbrev pub lent : List ℕ
lent = 0x01 ∷ 0x23 ∷ 0x45 ∷ 0x67 ∷ 0x89 ∷ 0xAB ∷ []

-- ---- parts that may be absent

abbrev pub there : Bool
there = true

abbrev pub absent : Bool
absent = false

-- a number
pub record OptionalField : Type 0 where
  pub present : Bool
  pub number : ℕ

abbrev pub field : Bool → ℕ → OptionalField
field p n = record { present = p; number = n }

-- a string or a list of ids: where it starts, and how many octets or ids it has
pub record OptionalPart : Type 0 where
  pub present : Bool
  pub start : ℕ
  pub count : ℕ

abbrev pub part : Bool → ℕ → ℕ → OptionalPart
part p start n = record { present = p; start = start; count = n }

-- a container: kind, number, start, and the rows that belong to it
pub record OptionalContainer : Type 0 where
  pub present : Bool
  pub kind : ℕ
  pub n : ℕ
  pub start : ℕ
  pub rows : ℕ

abbrev pub held : Bool → (kind n start rows : ℕ) → OptionalContainer
held p kind n start rows = record { present = p; kind = kind; n = n; start = start; rows = rows }

-- an attribute list: its count, and its rows, nested ones too
pub record OptionalList : Type 0 where
  pub present : Bool
  pub count : ℕ
  pub rows : ℕ

abbrev pub attributes : Bool → (count rows : ℕ) → OptionalList
attributes p count rows = record { present = p; count = count; rows = rows }

-- ---- messages, their parts in Annex A's order

abbrev pub request : (mode : Bool) (credentials : OptionalPart) (parameter : OptionalContainer) (iid : OptionalField) → Request
request mode credentials parameter iid =
    record {
      mode = mode;
      eid = 5;
      service = 7;
      has_credentials = credentials.present;
      credentials = credentials.start;
      credentials_length = credentials.count;
      has_parameter = parameter.present;
      kind = parameter.kind;
      n = parameter.n;
      start = parameter.start;
      rows = parameter.rows;
      has_iid = iid.present;
      iid = iid.number;
    }

abbrev pub action_request : Bool → OptionalPart → OptionalContainer → OptionalField → Message
action_request mode credentials parameter iid = kind.ActionRequest (request mode credentials parameter iid)

abbrev pub event_request : Bool → OptionalPart → OptionalContainer → OptionalField → Message
event_request mode credentials parameter iid = kind.EventRequest (request mode credentials parameter iid)

abbrev pub action_response : (fill : ℕ) (iid : OptionalField) (parameter : OptionalContainer) (ret : OptionalField) → Message
action_response fill iid parameter ret =
    kind.ActionResponse (record {
      fill = fill;
      eid = 5;
      has_iid = iid.present;
      iid = iid.number;
      has_parameter = parameter.present;
      kind = parameter.kind;
      n = parameter.n;
      start = parameter.start;
      rows = parameter.rows;
      has_ret = ret.present;
      ret = ret.number;
    })

abbrev pub response : (fill : ℕ) (iid ret : OptionalField) → Response
response fill iid ret =
    record { fill = fill; eid = 5; has_iid = iid.present; iid = iid.number; has_ret = ret.present; ret = ret.number }

abbrev pub event_response : ℕ → OptionalField → OptionalField → Message
event_response fill iid ret = kind.EventResponse (response fill iid ret)

abbrev pub set_response : ℕ → OptionalField → OptionalField → Message
set_response fill iid ret = kind.SetResponse (response fill iid ret)

-- its attribute list is always there
abbrev pub set_request : (fill : ℕ) (mode : Bool) (credentials : OptionalPart) (count rows : ℕ) (iid : OptionalField) → Message
set_request fill mode credentials count rows iid =
    kind.SetRequest (record {
      fill = fill;
      mode = mode;
      eid = 5;
      has_credentials = credentials.present;
      credentials = credentials.start;
      credentials_length = credentials.count;
      count = count;
      rows = rows;
      has_iid = iid.present;
      iid = iid.number;
    })

abbrev pub get_request : (fill : ℕ) (credentials : OptionalPart) (iid : OptionalField) (ids : OptionalPart) → Message
get_request fill credentials iid ids =
    kind.GetRequest (record {
      fill = fill;
      eid = 5;
      has_credentials = credentials.present;
      credentials = credentials.start;
      credentials_length = credentials.count;
      has_iid = iid.present;
      iid = iid.number;
      has_ids = ids.present;
      ids = ids.start;
      count = ids.count;
    })

abbrev pub get_response : (fill : ℕ) (iid : OptionalField) (list : OptionalList) (ret : OptionalField) → Message
get_response fill iid list ret =
    kind.GetResponse (record {
      fill = fill;
      eid = 5;
      has_iid = iid.present;
      iid = iid.number;
      has_attributes = list.present;
      count = list.count;
      rows = list.rows;
      has_ret = ret.present;
      ret = ret.number;
    })

abbrev pub bst : (mandatory : ℕ) (others : OptionalField) (profiles count : ℕ) → Message
bst mandatory others profiles count =
    kind.Bst (record {
      manufacturer = 0x1234;
      individual = 0x5678ABC;
      time = 0xC1C2C3C4;
      profile = 0x2B;
      mandatory = mandatory;
      has_others = others.present;
      others = others.number;
      profiles = profiles;
      profile_count = count;
    })

abbrev pub vst : (fill applications : ℕ) (status : OptionalField) → Message
vst fill applications status =
    kind.Vst (record {
      fill = fill;
      profile = 0x2B;
      applications = applications;
      class = 0x1234;
      maker = 0x5678;
      has_status = status.present;
      status = status.number;
    })

-- ---- rows and entries

abbrev pub row : (id kind n start : ℕ) → Row
row id kind n start = record { id = id; kind = kind; n = n; start = start }

abbrev pub entry : (aid : ℕ) (eid : OptionalField) (parameter : OptionalContainer) → Entry
entry aid eid parameter =
    record {
      has_eid = eid.present;
      has_parameter = parameter.present;
      aid = aid;
      eid = eid.number;
      kind = parameter.kind;
      n = parameter.n;
      start = parameter.start;
      rows = parameter.rows;
    }

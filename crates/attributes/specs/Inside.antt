-- What the private functions compute and what they ask of a request that was read. Of these public contracts cite only tag_of, a tag from its parts.
-- Assumes nothing.
use Rattle.std.specs.Prelude.{ℕ, ◌+◌, ◌*◌, ◌≤◌, ◌≡◌, Result, Ok, Err, List, length, take}
use Rattle.apdu.specs.declared.records.GetRequest.{GetRequest}
use Rattle.apdu.specs.declared.records.SetRequest.{SetRequest}
use Rattle.apdu.specs.declared.records.Message.{Message}
use Rattle.apdu.specs.declared.records.Message.TheVariants as kind
use Rattle.directory.specs.declared.Row.{Row}
use Rattle.attributes.specs.declared.answers.RequestOutcome.TheVariants as told
use Rattle.attributes.specs.declared.answers.RequestAnswer.{RequestAnswer}
use Rattle.attributes.specs.declared.status.Status.{Status}
use Rattle.attributes.specs.declared.status.Status.TheVariants as status
use Rattle.attributes.specs.declared.values.Values.{Values}
use Rattle.attributes.specs.Serving.{Tag, Reply, effect, sent, told_of, ids_from, rows_of, values_in, attributes_at}

abbrev pub tag_of : ℕ → List ℕ → List Row → List ℕ → List ℕ → Tag
tag_of eid credentials rows factory writable = record { eid = eid; credentials = credentials; directory = rows; factory = factory; writable = writable }

abbrev pub unserved : RequestAnswer
unserved = record { outcome = told.Refused 24 }

-- the number of a status
abbrev pub number_of : Status → ℕ
number_of status.AccessDenied = 1
number_of status.ArgumentError = 2
number_of status.ComplexityLimitation = 3

-- the status that checks in order give, or 0
abbrev pub status_of : {A : Type 0} → Result A Status → ℕ
status_of (Ok a) = 0
status_of (Err status) = number_of status

-- the answer and the output are those of sending this reply, whatever the writable area
pub record Sends (reply : Reply) (out : List ℕ) (r : RequestAnswer) (out' : List ℕ) : Type 0 where
  pub so : (w : List ℕ) → effect (told_of r.outcome) w out' ≡ sent reply w out

-- the ids of a GET are few, and their places are small numbers
pub record GetFits (m : GetRequest) : Type 0 where
  pub few : m.count ≤ 16
  pub near : m.ids + 8 * m.count ≤ 4096

-- so are the attributes of a SET
pub record SetFits (m : SetRequest) : Type 0 where
  pub few : m.count ≤ 32

unfoldable pub fits_by : Message → Type 0
fits_by (kind.ActionRequest m) = Unit {0}
fits_by (kind.ActionResponse m) = Unit {0}
fits_by (kind.EventRequest m) = Unit {0}
fits_by (kind.EventResponse m) = Unit {0}
fits_by (kind.SetRequest m) = SetFits m
fits_by (kind.SetResponse m) = Unit {0}
fits_by (kind.GetRequest m) = GetFits m
fits_by (kind.GetResponse m) = Unit {0}
fits_by (kind.Bst m) = Unit {0}
fits_by (kind.Vst m) = Unit {0}

pub record Fits (m : Message) : Type 0 where
  pub is : fits_by m

-- the values of the rows that are named stand at the front of the octets, and the attributes at the front of theirs
pub record Gathers (s : List ℕ) (ids count : ℕ) (rows : List Row) (factory writable : List ℕ) (r : Values) : Type 0 where
  pub size : ℕ
  pub long : length r.octets ≡ 2032
  pub values : take size r.octets ≡ values_in factory writable (rows_of rows (ids_from s ids count))
  pub attributes : take count r.attributes ≡ attributes_at 0 (rows_of rows (ids_from s ids count))

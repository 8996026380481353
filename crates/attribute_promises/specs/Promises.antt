-- What is proved of the request call besides its definition (01, "Reading and setting attributes"); each statement is a clause of `request_among`. No reply
-- is longer than 512 octets (ShortReplies), and each reads back as the message that is sent (RepliesReadBack). A SET with a fault writes nothing
-- (FaultyKeeps), and a refused call changes nothing (RefusalKeeps). Without the tag's exact credentials the octets of protected rows play no part in an
-- answer (ProtectedUnseen). The writable area keeps its length (LengthKept) and every octet that lies in no row which a SET names (OctetKept); a row that no
-- SET names keeps its octets (RowKept), and so does a protected row without the tag's exact credentials (ProtectedKept). A GET after a SET gives the value
-- set (SetThenGet). The request's octets and the tag leave one answer, one writable area and one output (OneEffect, Determined). The call has 01's refusals,
-- in 01's order, and no others (RefusesOnly).
-- In each statement s are the request's octets and out is the output before the call, a is its answer, w and o are the writable area and the output
-- afterwards, and r is the record that reading makes of s.
-- Assumes nothing.
use Rattle.std.specs.Prelude.{ℕ, ◌+◌, ◌<◌, ◌≤◌, ◌≡◌, List, [], ◌∷◌, ◌++◌, true, false, ◌⊎◌, ltb, length, take, drop}
use Rattle.refusals.specs.Check.{pick}
use Rattle.apdu_format.specs.Component.{octet_string}
use Rattle.apdu_format.specs.Reading.{read_message}
use Rattle.apdu_format.specs.Reading.{Outcome as ReadOutcome, refused as unread, message as read}
use Rattle.apdu_format.specs.RoundTrip.{ReadAs}
use Rattle.apdu.specs.Values.{values_of}
use Rattle.apdu.specs.declared.records.Message.TheVariants as kind
use Rattle.apdu_reading.specs.declared.front.Answer.{Answer}
use Rattle.apdu_reading.specs.declared.front.Answer.TheVariants as answer
use Rattle.apdu_reading.specs.declared.front.Reading.{Reading}
use Rattle.apdu_reading.specs.Answers.{Reads}
use Rattle.apdu.specs.declared.records.SetRequest.{SetRequest}
use Rattle.apdu.specs.declared.records.GetRequest.{GetRequest}
use Rattle.bits.specs.Strings.{string_at}
use Rattle.directory.specs.declared.Row.{Row}
use Rattle.directory.specs.Directory.{sound_directory, known_in, row_of}
use Rattle.attributes.specs.Serving.{least_output, Attribute, Tag, Reply, replied, effect, no_entries, value_of, exact, ids_from, get_status, served, set_status, sent, requested, Answered}
use Rattle.attributes.specs.Inside.{tag_of}
use Rattle.attributes.specs.declared.answers.RequestOutcome.{RequestOutcome}
use Rattle.attributes.specs.declared.answers.RequestOutcome.TheVariants as outcome
use Rattle.attributes.specs.declared.answers.RequestAnswer.{RequestAnswer}

-- ---- replies

-- a reply has at most 512 octets
unfoldable pub ShortReplies : Type 0
ShortReplies =
    (tag : Tag) (s out : List ℕ) (a : RequestAnswer) (w o : List ℕ) → Answered tag s out a w o → (n : ℕ) → a.outcome ≡ outcome.Reply n → n ≤ 512

-- these octets are read, to their end, as the message of this reply
abbrev pub ReplyRead : Reply → List ℕ → Type 0
ReplyRead q octets = ReadAs octets (values_of q.lent q.message no_entries q.attributes)

-- what is sent is a reply, and the n octets at the output's front are read as its message
pub record ReadsBack (out : List ℕ) (n : ℕ) (w o : List ℕ) : Type 0 where
  pub reply : Reply
  pub is : effect (replied n) w o ≡ sent reply w out
  pub reads : ReplyRead reply (take n o)

unfoldable pub RepliesReadBack : Type 0
RepliesReadBack =
    (tag : Tag) (s out : List ℕ) (a : RequestAnswer) (w o : List ℕ) → Answered tag s out a w o → (n : ℕ) → a.outcome ≡ outcome.Reply n → ReadsBack out n w o

-- ---- a SET with a fault: no row is written

unfoldable pub FaultyKeeps : Type 0
FaultyKeeps =
    (tag : Tag) (s out : List ℕ) (a : RequestAnswer) (w o : List ℕ) → Answered tag s out a w o → (r : Reading) → Reads s r
    → (m : SetRequest) → r.answer ≡ answer.Message (kind.SetRequest m) → (set_status tag s m r.lists.rows ≡ 0 → ⊥) → w ≡ tag.writable

-- ---- without the tag's exact credentials

-- two pairs of areas agree in every row that is not protected
pub record AgreeOpen (rows : List Row) (f w f' w' : List ℕ) : Type 0 where
  pub so : (id : ℕ) → (row_of id rows).protected ≡ false → value_of f w (row_of id rows) ≡ value_of f' w' (row_of id rows)

-- a GET without the tag's exact credentials, or another request
abbrev pub GetWithout : List ℕ → List ℕ → Answer → Type 0
GetWithout s credentials a =
    (m : GetRequest) → a ≡ answer.Message (kind.GetRequest m) → exact s credentials m.has_credentials m.credentials m.credentials_length ≡ false

-- two tags that differ only in octets of protected rows give the same answer and the same output; a SET shows no octet of a tag at all
unfoldable pub ProtectedUnseen : Type 0
ProtectedUnseen =
    (eid : ℕ) (credentials : List ℕ) (rows : List Row) (f v f' v' : List ℕ) → AgreeOpen rows f v f' v' → length f ≡ length f' → length v ≡ length v'
    → (s out : List ℕ) (r : Reading) → Reads s r → GetWithout s credentials r.answer → (a b : RequestAnswer) (w w' o o' : List ℕ)
    → Answered (tag_of eid credentials rows f v) s out a w o → Answered (tag_of eid credentials rows f' v') s out b w' o' → (a ≡ b) × (o ≡ o')

-- ---- the writable area after a call

unfoldable pub LengthKept : Type 0
LengthKept = (tag : Tag) (s out : List ℕ) (a : RequestAnswer) (w o : List ℕ) → Answered tag s out a w o → length w ≡ length tag.writable

-- each of these attributes is so
abbrev pub Each : (Attribute → Type 0) → List Attribute → Type 0
Each P [] = Unit {0}
Each P (x ∷ rest) = P x × Each P rest

-- none has this id
abbrev pub Unnamed : ℕ → List Attribute → Type 0
Unnamed id = Each (λ (x : Attribute). x.id ≡ id → ⊥)

-- octet i of the writable area lies in none of their rows
abbrev pub Outside : ℕ → List Row → List Attribute → Type 0
Outside i rows = Each (λ (x : Attribute). (i < (row_of x.id rows).start) ⊎ ((row_of x.id rows).start + (row_of x.id rows).length ≤ i))

-- an octet in no row that a SET names stays, whatever is answered
unfoldable pub OctetKept : Type 0
OctetKept =
    (tag : Tag) (s out : List ℕ) (a : RequestAnswer) (w o : List ℕ) → Answered tag s out a w o → (r : Reading) → Reads s r
    → (i : ℕ) → ((m : SetRequest) → r.answer ≡ answer.Message (kind.SetRequest m) → Outside i tag.directory (take m.count r.lists.rows))
    → take 1 (drop i w) ≡ take 1 (drop i tag.writable)

-- the row of an id keeps its octets
pub record KeepsRow (tag : Tag) (id : ℕ) (w : List ℕ) : Type 0 where
  pub so : value_of tag.factory w (row_of id tag.directory) ≡ value_of tag.factory tag.writable (row_of id tag.directory)

-- a row that no SET names keeps its octets, whatever is answered
unfoldable pub RowKept : Type 0
RowKept =
    (tag : Tag) (s out : List ℕ) (a : RequestAnswer) (w o : List ℕ) → Answered tag s out a w o → (r : Reading) → Reads s r
    → (id : ℕ) → known_in id tag.directory ≡ true
    → ((m : SetRequest) → r.answer ≡ answer.Message (kind.SetRequest m) → Unnamed id (take m.count r.lists.rows)) → KeepsRow tag id w

-- and so does a protected row, unless a SET carries the tag's exact credentials
abbrev pub SetWithout : List ℕ → List ℕ → Answer → Type 0
SetWithout s credentials a =
    (m : SetRequest) → a ≡ answer.Message (kind.SetRequest m) → exact s credentials m.has_credentials m.credentials m.credentials_length ≡ false

unfoldable pub ProtectedKept : Type 0
ProtectedKept =
    (tag : Tag) (s out : List ℕ) (a : RequestAnswer) (w o : List ℕ) → Answered tag s out a w o → (r : Reading) → Reads s r
    → (id : ℕ) → known_in id tag.directory ≡ true → (row_of id tag.directory).protected ≡ true → SetWithout s tag.credentials r.answer → KeepsRow tag id w

-- the tag with the writable area that a call leaves
abbrev pub afterwards : Tag → List ℕ → Tag
afterwards tag w = record { eid = tag.eid; credentials = tag.credentials; directory = tag.directory; factory = tag.factory; writable = w }

-- a SET of status 0, of whose attributes x is the last with its id
pub record SetGives (tag : Tag) (s : List ℕ) (r : Reading) (out : List ℕ) (x : Attribute) : Type 0 where
  pub m : SetRequest
  pub is : r.answer ≡ answer.Message (kind.SetRequest m)
  pub room : least_output ≤ length out
  pub sound : sound_directory (length tag.factory) (length tag.writable) tag.directory ≡ true
  pub fine : set_status tag s m r.lists.rows ≡ 0
  pub before : List Attribute
  pub behind : List Attribute
  pub list : take m.count r.lists.rows ≡ before ++ (x ∷ behind)
  pub last : Unnamed x.id behind

-- a GET of status 0, of one id
pub record GetsOne (tag : Tag) (s : List ℕ) (r : Reading) (out : List ℕ) (id : ℕ) (m : GetRequest) : Type 0 where
  pub is : r.answer ≡ answer.Message (kind.GetRequest m)
  pub room : least_output ≤ length out
  pub fine : get_status tag s m ≡ 0
  pub ids : ids_from s m.ids m.count ≡ id ∷ []

-- the reply to a GET with one value v
unfoldable pub one_value : GetRequest → ℕ → List ℕ → Reply
one_value m id v =
    record {
      message = kind.GetResponse (record {
        fill = 0;
        eid = m.eid;
        has_iid = m.has_iid;
        iid = m.iid;
        has_attributes = true;
        count = 1;
        rows = 1;
        has_ret = false;
        ret = 0;
      });
      attributes = record { id = id; kind = octet_string; n = length v; start = 0 } ∷ [];
      lent = v;
    }

-- a reply, read as this message
pub record RepliesWith (q : Reply) (a : RequestAnswer) (o : List ℕ) : Type 0 where
  pub n : ℕ
  pub is : a.outcome ≡ outcome.Reply n
  pub reads : ReplyRead q (take n o)

-- a SET, and then a GET of the row that it set: the reply is read as the value set
unfoldable pub SetThenGet : Type 0
SetThenGet =
    (tag : Tag) (s out : List ℕ) (a : RequestAnswer) (w o : List ℕ) → Answered tag s out a w o → (r : Reading) → Reads s r
    → (x : Attribute) → SetGives tag s r out x
    → (t out' : List ℕ) (b : RequestAnswer) (w' o' : List ℕ) → Answered (afterwards tag w) t out' b w' o' → (q : Reading) → Reads t q
    → (m : GetRequest) → GetsOne (afterwards tag w) t q out' x.id m → RepliesWith (one_value m x.id (string_at s x.start x.n)) b o'

-- ---- a refused call changes no octet of the writable area or of the output

unfoldable pub RefusalKeeps : Type 0
RefusalKeeps =
    (tag : Tag) (s out : List ℕ) (a : RequestAnswer) (w o : List ℕ) → Answered tag s out a w o
    → ((k : ℕ) → a.outcome ≡ outcome.Refused k → (w ≡ tag.writable) × (o ≡ out))
    × ((k p : ℕ) → a.outcome ≡ outcome.RefusedAt k p → (w ≡ tag.writable) × (o ≡ out))

-- ---- one effect for each request

-- whichever record reading makes of s, the effect is the same
unfoldable pub OneEffect : Type 0
OneEffect = (tag : Tag) (s out : List ℕ) (r q : Reading) → Reads s r → Reads s q → requested tag s r out ≡ requested tag s q out

-- so the contract of the request call determines its answer, the writable area and the output
unfoldable pub Determined : Type 0
Determined =
    (tag : Tag) (s out : List ℕ) (a b : RequestAnswer) (w w' o o' : List ℕ) → Answered tag s out a w o → Answered tag s out b w' o' → (a ≡ b) × (w ≡ w') × (o ≡ o')

-- ---- what the call refuses (01: "Checks: 1 (output below 512), 26, those of reading, 24")

-- a refusal, with its position where it has one; or none
pub data Refusal : Type 0 where
  none : Refusal
  number : ℕ → Refusal
  number_at : ℕ → ℕ → Refusal

pub record Replies (o : RequestOutcome) : Type 0 where
  pub n : ℕ
  pub is : o ≡ outcome.Reply n

-- the answer with this refusal; without one it is no reply, or a reply
abbrev pub Refuses : Refusal → RequestOutcome → Type 0
Refuses none o = (o ≡ outcome.NoReply) ⊎ Replies o
Refuses (number k) o = o ≡ outcome.Refused k
Refuses (number_at k p) o = o ≡ outcome.RefusedAt k p

unfoldable pub first_refusal : List Refusal → Refusal
first_refusal [] = none
first_refusal (none ∷ rest) = first_refusal rest
first_refusal (number k ∷ rest) = number k
first_refusal (number_at k p ∷ rest) = number_at k p

-- the output is below 512 octets
abbrev pub small_output : List ℕ → Refusal
small_output out = pick (ltb (length out) least_output) (number 1) none

abbrev pub unsound_directory : Tag → Refusal
unsound_directory tag = pick (sound_directory (length tag.factory) (length tag.writable) tag.directory) none (number 26)

unfoldable pub unreadable : ReadOutcome → Refusal
unreadable (unread k p) = number_at k p
unreadable (read vs end) = none

-- a message that is not served
unfoldable pub unserved : Answer → Refusal
unserved (answer.Refused k p) = none
unserved (answer.Message m) = pick (served m) none (number 24)

-- the first of these that holds
abbrev pub refusal_of : Tag → List ℕ → List ℕ → Answer → Refusal
refusal_of tag s out a = first_refusal (small_output out ∷ unsound_directory tag ∷ unreadable (read_message s) ∷ unserved a ∷ [])

-- is the call's refusal, and there is no other: a request that passes them has its reply, or the silence of a SET with mode 0
unfoldable pub RefusesOnly : Type 0
RefusesOnly =
    (tag : Tag) (s out : List ℕ) (a : RequestAnswer) (w o : List ℕ) → Answered tag s out a w o → (r : Reading) → Reads s r
    → Refuses (refusal_of tag s out r.answer) a.outcome

-- The octets of a string of a message by the string's number: 0 the credentials, 1 the parameter, 2 to 33 the attribute rows in the order of the message, 34
-- to 65 the parameters of its application entries. An absent container has kind 0, so a parameter is a string just where its kind is 2.
-- Assumes nothing.
use Rattle.std.specs.Prelude.{ℕ, ◌-◌, ◌≤◌, ◌<◌, Bool, ◌≡◌, Option, Some, None, List, ◌++◌, eqb, ltb, length, get_or, drop}
use Rattle.std.specs.Bool.{then_some}
use Rattle.refusals.specs.Check.{pick}
use Rattle.bits.specs.Strings.{string_at, copy_fits, copy_string}
use Rattle.apdu_format.specs.Component.{octet_string}
use Rattle.apdu.specs.declared.lists.Entry.{Entry}
use Rattle.apdu.specs.declared.lists.Lists.{Lists}
use Rattle.apdu.specs.declared.lists.Row.{Row}
use Rattle.apdu.specs.declared.records.Message.{Message}
use Rattle.apdu.specs.declared.records.Message.TheVariants as kind
use Rattle.apdu.specs.Values.{empty_row, empty_entry}
use Rattle.apdu_reading.specs.declared.front.Answer.{Answer}
use Rattle.apdu_reading.specs.declared.front.Answer.TheVariants as answer
use Rattle.apdu_reading.specs.declared.front.Reading.{Reading}
use Rattle.apdu_reading.specs.Answers.{Reads}
use Rattle.words.specs.Answer.{answer_number, Says, SaysRefused}
use Rattle.exports.specs.declared.strings.StringPart.{StringPart}
use Rattle.exports.specs.Messages.{refusal_number, refusal_at}

-- ---- which part

abbrev pub part : Bool → ℕ → ℕ → Option StringPart
part present start n = then_some present (record { start = start; length = n })

abbrev pub credentials_in : Message → Option StringPart
credentials_in (kind.ActionRequest m) = part m.has_credentials m.credentials m.credentials_length
credentials_in (kind.ActionResponse m) = None
credentials_in (kind.EventRequest m) = part m.has_credentials m.credentials m.credentials_length
credentials_in (kind.EventResponse m) = None
credentials_in (kind.SetRequest m) = part m.has_credentials m.credentials m.credentials_length
credentials_in (kind.SetResponse m) = None
credentials_in (kind.GetRequest m) = part m.has_credentials m.credentials m.credentials_length
credentials_in (kind.GetResponse m) = None
credentials_in (kind.Bst m) = None
credentials_in (kind.Vst m) = None

abbrev pub parameter_in : Message → Option StringPart
parameter_in (kind.ActionRequest m) = part (eqb m.kind octet_string) m.start m.n
parameter_in (kind.ActionResponse m) = part (eqb m.kind octet_string) m.start m.n
parameter_in (kind.EventRequest m) = part (eqb m.kind octet_string) m.start m.n
parameter_in (kind.EventResponse m) = None
parameter_in (kind.SetRequest m) = None
parameter_in (kind.SetResponse m) = None
parameter_in (kind.GetRequest m) = None
parameter_in (kind.GetResponse m) = None
parameter_in (kind.Bst m) = None
parameter_in (kind.Vst m) = None

abbrev pub row_string : Row → Option StringPart
row_string row = part (eqb row.kind octet_string) row.start row.n

abbrev pub entry_string : Entry → Option StringPart
entry_string entry = part (eqb entry.kind octet_string) entry.start entry.n

unfoldable pub string_part : Message → Lists → ℕ → Option StringPart
string_part m lists field =
    pick (eqb field 0) (credentials_in m)
    (pick (eqb field 1) (parameter_in m)
    (pick (ltb field 34) (row_string (get_or lists.rows (field - 2) empty_row))
    (pick (ltb field 66) (entry_string (get_or lists.entries (field - 34) empty_entry)) None)))

-- ---- the answer

-- kind 0: no such string; kind 1: a string of so many octets; 22 where they do not fit into the output
unfoldable pub string_number : List ℕ → Option StringPart → List ℕ → ℕ
string_number s None out = answer_number 0 0 0 0
string_number s (Some p) out = pick (copy_fits s p.start p.length out 0) (answer_number 0 1 p.length 0) (refusal_number 22)

-- the string's octets from the front, and every other octet as it was
unfoldable pub string_output : List ℕ → Option StringPart → List ℕ → List ℕ
string_output s None out = out
string_output s (Some p) out = copy_string s p.start p.length out 0

unfoldable pub field_number : List ℕ → Lists → ℕ → List ℕ → Answer → ℕ
field_number s lists field out (answer.Refused k p) = refusal_at k p
field_number s lists field out (answer.Message m) = string_number s (string_part m lists field) out

unfoldable pub field_output : List ℕ → Lists → ℕ → List ℕ → Answer → List ℕ
field_output s lists field out (answer.Refused k p) = out
field_output s lists field out (answer.Message m) = string_output s (string_part m lists field) out

-- the contract: the answer and the output are those of the definition, for the record that reading makes of s
pub record StringGives (s : List ℕ) (field : ℕ) (out : List ℕ) (r : ℕ) (out' : List ℕ) : Type 0 where
  pub reading : Reading
  pub reads : Reads s reading
  pub is : r ≡ field_number s reading.lists field out reading.answer
  pub output_is : out' ≡ field_output s reading.lists field out reading.answer

-- ---- the promise (proofs/StringInside.antt proves it; `string` cites it): every string of a message lies inside it, whichever its number, so 22 says
-- that the output is shorter than the string, and nothing else; and what is taken out of the number is what is answered

-- a string that is there
pub record StringTold (s : List ℕ) (p : StringPart) (out : List ℕ) (r : ℕ) (out' : List ℕ) : Type 0 where
  pub small : length out < p.length → SaysRefused r 22 0 × (out' ≡ out)
  pub large : p.length ≤ length out → Says r 0 1 p.length 0 × (out' ≡ string_at s p.start p.length ++ drop p.length out)

-- no such string, or the string
abbrev pub PartTold : (s : List ℕ) → Option StringPart → (out : List ℕ) → (r : ℕ) → (out' : List ℕ) → Type 0
PartTold s None out r out' = Says r 0 0 0 0 × (out' ≡ out)
PartTold s (Some p) out r out' = StringTold s p out r out'

-- reading's refusal, or what is told of the string with that number
unfoldable pub FieldTold : (s : List ℕ) → Lists → (field : ℕ) → (out : List ℕ) → Answer → (r : ℕ) → (out' : List ℕ) → Type 0
FieldTold s lists field out (answer.Refused k p) r out' = SaysRefused r k p × (out' ≡ out)
FieldTold s lists field out (answer.Message m) r out' = PartTold s (string_part m lists field) out r out'

unfoldable pub EachString : Type 0
EachString =
    (s : List ℕ) (field : ℕ) (out : List ℕ) (r : ℕ) (out' : List ℕ) (g : StringGives s field out r out')
    → FieldTold s g.reading.lists field out g.reading.answer r out'

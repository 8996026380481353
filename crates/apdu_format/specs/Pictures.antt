-- How the cases of this crate are written down: a message's octets as the papers print them, what its components hold, and what reading it gives.
-- A case is held against the definitions by computing both sides; proofs/Cases.antt does that for every list of cases.
-- Assumes nothing.
use Rattle.std.specs.Prelude.{ℕ, zero, suc, ◌*◌, ◌/◌, ◌%◌, ◌≡◌, List, [], ◌∷◌, ◌++◌, map, length}
use Rattle.bits.specs.Bits.{bits}
use Rattle.apdu_format.specs.Component.{choice}
use Rattle.apdu_format.specs.Reading.{Value, fields, string, State, Outcome, refused, message, read_message, runs, start}

-- so many octets as the papers print them: picture 3 0x20_00_00 is 20 00 00
unfoldable pub picture : ℕ → ℕ → List ℕ
picture zero v = []
picture (suc n) v = picture n (v / 256) ++ (v % 256 ∷ [])

-- a list, so many times
unfoldable pub repeated : {A : Type 0} → ℕ → List A → List A
repeated zero l = []
repeated (suc n) l = l ++ repeated n l

-- ---- what components hold

-- a leading part: the choice, and the fields after it
abbrev pub leading : ℕ → List ℕ → List Value
leading c after = fields (c ∷ []) ∷ fields after ∷ []

-- a number 0..127, a count or a container's kind: an extension bit of 0 before it
abbrev pub number : ℕ → List Value
number n = fields (0 ∷ n ∷ []) ∷ []

-- a number of two or four octets
abbrev pub whole_number : ℕ → List Value
whole_number n = fields (n ∷ []) ∷ []

-- an octet string whose octets start at octet k of the message
abbrev pub octet_string : ℕ → List ℕ → List Value
octet_string k s = fields (0 ∷ []) ∷ fields (length s ∷ []) ∷ string (8 * k) (bits s) ∷ []

-- a count of ids or profiles, which start at octet k of the message
abbrev pub ids_from : ℕ → ℕ → List Value
ids_from k n = fields (0 ∷ n ∷ []) ∷ string (8 * k) [] ∷ []

-- an application entry's first octet: whether an eid follows, whether a parameter, and the AID
abbrev pub application : ℕ → ℕ → ℕ → List Value
application eid parameter aid = fields (eid ∷ parameter ∷ 0 ∷ aid ∷ []) ∷ []

-- a configuration's first two octets: whether a status follows, and the class
abbrev pub equipment : ℕ → ℕ → List Value
equipment status class = fields (status ∷ class ∷ []) ∷ []

-- ---- cases of reading

-- a message that is read, or the components of one up to its first fault
pub data Given : Type 0 where
  reading : List ℕ → Given
  components : List ℕ → Given

pub data Result : Type 0 where
  outcome : Outcome → Result
  state : State → Result

unfoldable pub result : Given → Result
result (reading s) = outcome (read_message s)
result (components s) = state (runs (bits s) (choice ∷ []) start)

pub record Case : Type 0 where
  pub given : Given
  pub gives : Result

-- the octets s are read to their end, and hold these values
abbrev pub reads : List ℕ → List Value → Case
reads s vs = record { given = reading s; gives = outcome (message vs (8 * length s)) }

-- the octets s are refused with number k at position p
abbrev pub refuses : List ℕ → ℕ → ℕ → Case
refuses s k p = record { given = reading s; gives = outcome (refused k p) }

-- the components of s leave this state
abbrev pub leaves : List ℕ → State → Case
leaves s d = record { given = components s; gives = state d }

-- the components of s end in 13 at its last octet's end: the next would start at bit place at, the last one read begins at place begun, and so many
-- attribute rows may still be announced
abbrev pub stops : List ℕ → ℕ → ℕ → ℕ → Case
stops s at begun room = leaves s (record { at = at; begun = begun; room = room; fault = 13; position = length s; log = [] })

-- every case of a list gives what it says
unfoldable pub Hold : List Case → Type 0
Hold cases = map (λ (c : Case). result c.given) cases ≡ map (λ (c : Case). c.gives) cases

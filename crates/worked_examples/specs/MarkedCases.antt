-- The cases that document 01 marks (*), as one list and one statement about it: each call, by its definition, gives what 01 says.
-- Assumes nothing.
use Rattle.std.specs.Prelude.{ℕ, ◌*◌, ◌≡◌, Bool, true, false, List, [], ◌∷◌, map, length, take, replicate}
use Rattle.refusals.specs.Check.{Answer, refused, accepted}
use Rattle.header.specs.declared.HeaderRead.{HeaderRead}
use Rattle.header.specs.Header.{read_header, header_octets}
use Rattle.apdu_format.specs.Reading.{Value, fields as numbers, string, Outcome, refused as refused_at, message as read, read_message}
use Rattle.apdu_format.specs.Writing.{encoded_octets}
use Rattle.apdu.specs.declared.lists.Row.{Row}
use Rattle.apdu.specs.declared.records.Message.{Message}
use Rattle.apdu.specs.declared.records.Message.TheVariants as kind
use Rattle.apdu.specs.Values.{empty_row, empty_entry}
use Rattle.apdu_reading.specs.declared.front.Answer.TheVariants as answer
use Rattle.apdu_reading.specs.declared.front.Reading.{Reading}
use Rattle.apdu_reading.specs.Answers.{outcome_of}
use Rattle.attributes.specs.Serving as serving
use Rattle.attributes.specs.Serving.{Tag, Effect, requested}

-- what a case hands in
pub data Given : Type 0 where
  header : (octets : List ℕ) → Given
  message : (octets : List ℕ) → Given
  request : (tag : Tag) (record_read : Reading) (octets : List ℕ) → Given

-- what it gives: a refusal's number, with a message's position; last mark, message number, counter and size of a header; or what a message's
-- components hold and the bit place behind it. With what is read stand the octets of writing it again. Of a request: what its octets are read as, what its
-- record says, the reply, and the writable area after it.
pub data Result : Type 0 where
  refusal : (number : ℕ) → Result
  refusal_at : (number position : ℕ) → Result
  fields : (last : Bool) (number counter size : ℕ) (written : List ℕ) → Result
  values : (components : List Value) (end : ℕ) (written : List ℕ) → Result
  reply : (octets-read record_read : Outcome) (octets writable : List ℕ) → Result

unfoldable pub header_result : Answer HeaderRead → Result
header_result (refused k) = refusal k
header_result (accepted f) = fields f.header.last f.header.number f.header.counter f.size (header_octets f.header)

unfoldable pub message_result : Outcome → Result
message_result (refused_at k p) = refusal_at k p
message_result (read vs end) = values vs end (encoded_octets vs)

-- the octets of a reply at the output's front
unfoldable pub sent_of : serving.Outcome → List ℕ → List ℕ
sent_of (serving.refused k) out = []
sent_of (serving.refused_at k p) out = []
sent_of serving.silent out = []
sent_of (serving.replied n) out = take n out

unfoldable pub request_result : List ℕ → Reading → Effect → Result
request_result s r e = reply (read_message s) (outcome_of s r) (sent_of e.outcome e.output) e.writable

unfoldable pub result : Given → Result
result (header s) = header_result (read_header s)
result (message s) = message_result (read_message s)
result (request tag r s) = request_result s r (requested tag s r (replicate 512 0))

pub record Case : Type 0 where
  pub given : Given
  pub gives : Result

-- a header that is read, and written again as the same octets
abbrev pub reads : List ℕ → Bool → ℕ → ℕ → ℕ → Case
reads s last number counter n = record { given = header s; gives = fields last number counter n s }

abbrev pub refuses : List ℕ → ℕ → Case
refuses s k = record { given = header s; gives = refusal k }

-- a message that is read to its end, and written again as the same octets
abbrev pub decodes : List ℕ → List Value → ℕ → Case
decodes s vs end = record { given = message s; gives = values vs end s }

-- a request that is read as the message m with these rows, and answered so
abbrev pub answers : Tag → List ℕ → Message → List Row → List Value → List ℕ → List ℕ → Case
answers tag s m rows vs octets writable =
    let end = 8 * length s in
    record {
      given = request tag (record { answer = answer.Message m; end = end; lists = record { entries = replicate 32 empty_entry; rows = rows } }) s;
      gives = reply (read vs end) (read vs end) octets writable;
    }

-- a tag with eid 1 and attribute 5 of two octets, in the factory area or in the writable one
abbrev pub tag_with : Bool → List ℕ → List ℕ → Tag
tag_with w factory writable =
    record {
      eid = 1;
      credentials = [];
      directory = record { id = 5; writable = w; start = 0; length = 2; protected = false } ∷ [];
      factory = factory;
      writable = writable;
    }

-- GET of one id
abbrev pub get_one : Message
get_one =
    kind.GetRequest (record {
      fill = 0;
      eid = 1;
      has_credentials = false;
      credentials = 0;
      credentials_length = 0;
      has_iid = false;
      iid = 0;
      has_ids = true;
      ids = 24;
      count = 1;
    })

-- SET of one attribute, with mode 1
abbrev pub set_one : Message
set_one =
    kind.SetRequest (record {
      fill = 0;
      mode = true;
      eid = 1;
      has_credentials = false;
      credentials = 0;
      credentials_length = 0;
      count = 1;
      rows = 1;
      has_iid = false;
      iid = 0;
    })

-- bits of the leading part, a number 0..127 behind its extension bit, and an empty octet string at a place
abbrev pub bits_are : List ℕ → Value
bits_are fs = numbers fs

abbrev pub number : ℕ → Value
number n = numbers (0 ∷ n ∷ [])

abbrev pub empty_string : ℕ → List Value
empty_string at = numbers (0 ∷ []) ∷ numbers (0 ∷ []) ∷ string at [] ∷ []

-- GET of one id: choice 6, an id list, eid 1
abbrev pub gotten : ℕ → List Value
gotten id = bits_are (6 ∷ []) ∷ bits_are (0 ∷ 0 ∷ 1 ∷ 0 ∷ []) ∷ number 1 ∷ number 1 ∷ string 24 [] ∷ number id ∷ []

abbrev pub marked : List Case
marked =
    -- Fragment header
    reads (0x91 ∷ []) true 2 0 1
    ∷ reads (0x97 ∷ []) true 2 3 1
    ∷ reads (0x10 ∷ 0x09 ∷ []) false 2 4 2
    ∷ reads (0xFE ∷ 0xFF ∷ []) true 15 511 2
    ∷ reads (0x10 ∷ 0x08 ∷ 0x00 ∷ []) false 2 512 3
    ∷ refuses (0x10 ∷ 0x07 ∷ []) 5
    -- Messages: ECHO request (choice 0; parameter present, mode 1; eid 0, action 15, an octet string), its response, release
    ∷ decodes (0x05 ∷ 0x00 ∷ 0x0F ∷ 0x02 ∷ 0x00 ∷ []) (bits_are (0 ∷ []) ∷ bits_are (0 ∷ 1 ∷ 0 ∷ 1 ∷ []) ∷ number 0 ∷ number 15 ∷ number 2 ∷ empty_string 40) 40
    ∷ decodes (0x14 ∷ 0x00 ∷ 0x02 ∷ 0x00 ∷ []) (bits_are (1 ∷ []) ∷ bits_are (0 ∷ 1 ∷ 0 ∷ 0 ∷ []) ∷ number 0 ∷ number 2 ∷ empty_string 32) 32
    ∷ decodes (0x20 ∷ 0x00 ∷ 0x00 ∷ []) (bits_are (2 ∷ []) ∷ bits_are (0 ∷ 0 ∷ 0 ∷ 0 ∷ []) ∷ number 0 ∷ number 0 ∷ []) 24
    -- Requests: GET of attribute 5, which holds 41 42; of 9, which is unknown; SET of 5
    ∷ answers (tag_with false (0x41 ∷ 0x42 ∷ []) []) (0x62 ∷ 0x01 ∷ 0x01 ∷ 0x05 ∷ []) get_one (replicate 32 empty_row) (gotten 5)
    (0x74 ∷ 0x01 ∷ 0x01 ∷ 0x05 ∷ 0x02 ∷ 0x02 ∷ 0x41 ∷ 0x42 ∷ []) []
    ∷ answers (tag_with false (0x41 ∷ 0x42 ∷ []) []) (0x62 ∷ 0x01 ∷ 0x01 ∷ 0x09 ∷ []) get_one (replicate 32 empty_row) (gotten 9) (0x72 ∷ 0x01 ∷ 0x02 ∷ []) []
    ∷ answers (tag_with true [] (0x00 ∷ 0x00 ∷ [])) (0x41 ∷ 0x01 ∷ 0x01 ∷ 0x05 ∷ 0x02 ∷ 0x02 ∷ 0x41 ∷ 0x42 ∷ []) set_one
    (record { id = 5; kind = 2; n = 2; start = 48 } ∷ replicate 31 empty_row)
    (bits_are (4 ∷ []) ∷ bits_are (0 ∷ 0 ∷ 0 ∷ 1 ∷ []) ∷ number 1 ∷ number 1 ∷ number 5 ∷ number 2 ∷ numbers (0 ∷ []) ∷ numbers (2 ∷ [])
    ∷ string 48 (0 ∷ 1 ∷ 0 ∷ 0 ∷ 0 ∷ 0 ∷ 0 ∷ 1 ∷ 0 ∷ 1 ∷ 0 ∷ 0 ∷ 0 ∷ 0 ∷ 1 ∷ 0 ∷ []) ∷ [])
    (0x54 ∷ 0x01 ∷ 0x00 ∷ []) (0x41 ∷ 0x42 ∷ [])
    ∷ []

-- what is proved; `run_cases` of the program cites it
unfoldable pub MarkedCasesHold : Type 0
MarkedCasesHold = map (λ (c : Case). result c.given) marked ≡ map (λ (c : Case). c.gives) marked

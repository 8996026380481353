-- The answers of the message calls as numbers: reading's refusal with its position (01's refusal table, 13 to 21), or the message's choice; and what writing
-- answers. `answer_number` puts refusal number, kind, and two numbers into one.
-- Assumes nothing.
use Rattle.std.specs.Prelude.{ℕ, List, [], ◌∷◌}
use Rattle.apdu_format.specs.Reading.{Value, fields, string, Outcome, refused, message, read_message}
use Rattle.apdu.specs.declared.records.Message.{Message}
use Rattle.apdu.specs.declared.records.Message.TheVariants as kind
use Rattle.apdu_reading.specs.declared.front.Answer.{Answer}
use Rattle.apdu_reading.specs.declared.front.Answer.TheVariants as answer
use Rattle.apdu_writing.specs.Answer as writing
use Rattle.apdu_rewriting.specs.Rewriting.{rewrite_answer}
use Rattle.words.specs.Answer.{answer_number, Says, SaysRefused}

-- a refusal without a position, and one with it
abbrev pub refusal_number : ℕ → ℕ
refusal_number k = answer_number k 0 0 0

abbrev pub refusal_at : (number position : ℕ) → ℕ
refusal_at k p = answer_number k 0 p 0

-- ---- check

-- the choice: the first number of a message's first value
unfoldable pub choice_in : List Value → ℕ
choice_in [] = 0
choice_in (string at bits ∷ vs) = 0
choice_in (fields [] ∷ vs) = 0
choice_in (fields (n ∷ ns) ∷ vs) = n

-- the kind is the message's choice
unfoldable pub check_number : Outcome → ℕ
check_number (refused k p) = refusal_at k p
check_number (message vs end) = answer_number 0 (choice_in vs) 0 0

-- ---- rewrite

-- the first number is how many octets were written
unfoldable pub written_number : writing.Answer → ℕ
written_number (writing.refused k) = refusal_number k
written_number (writing.refused_at k p) = refusal_at k p
written_number (writing.octets n) = answer_number 0 0 n 0

-- ---- what a caller takes out of a number r

unfoldable pub CheckSays : (r : ℕ) → Outcome → Type 0
CheckSays r (refused k p) = SaysRefused r k p
CheckSays r (message vs end) = Says r 0 (choice_in vs) 0 0

unfoldable pub RewrittenSays : (r : ℕ) → writing.Answer → Type 0
RewrittenSays r (writing.refused k) = SaysRefused r k 0
RewrittenSays r (writing.refused_at k p) = SaysRefused r k p
RewrittenSays r (writing.octets n) = Says r 0 0 n 0

-- ---- promises (proofs/ReadingBack.antt proves each; `check` cites the first, `rewrite` the second)

-- what is taken out of the number is what reading answers
unfoldable pub UnpackingCheck : Type 0
UnpackingCheck = (s : List ℕ) → CheckSays (check_number (read_message s)) (read_message s)

-- and what rewriting answers
unfoldable pub UnpackingRewritten : Type 0
UnpackingRewritten = (s : List ℕ) (room : ℕ) → RewrittenSays (written_number (rewrite_answer s room)) (rewrite_answer s room)

-- ---- within the crate

-- the choice of a record
abbrev pub choice_of : Message → ℕ
choice_of (kind.ActionRequest m) = 0
choice_of (kind.ActionResponse m) = 1
choice_of (kind.EventRequest m) = 2
choice_of (kind.EventResponse m) = 3
choice_of (kind.SetRequest m) = 4
choice_of (kind.SetResponse m) = 5
choice_of (kind.GetRequest m) = 6
choice_of (kind.GetResponse m) = 7
choice_of (kind.Bst m) = 8
choice_of (kind.Vst m) = 9

abbrev pub checked_number : Answer → ℕ
checked_number (answer.Message m) = answer_number 0 (choice_of m) 0 0
checked_number (answer.Refused k p) = refusal_at k p

-- Demand 2 for messages, about records: what `read` and `write` are to each other, for every octet and every record. Reads s r (apdu_reading) is the
-- contract of `read`; write_answer and write_output are what the contract of `write` says. `rewrite` cites each statement; proofs/RoundTrip.antt proves it.
-- Assumes nothing.
use Rattle.std.specs.Prelude.{ℕ, ◌≤◌, ◌<◌, ◌≡◌, List, ◌++◌, length, drop}
use Rattle.bits.specs.Bits.{Octets}
use Rattle.apdu_format.specs.Reading.{Value}
use Rattle.apdu_format.specs.RoundTrip.{Same}
use Rattle.apdu.specs.declared.lists.Row.{Row}
use Rattle.apdu.specs.declared.lists.Entry.{Entry}
use Rattle.apdu.specs.declared.lists.Lists.{Lists}
use Rattle.apdu.specs.declared.records.Message.{Message}
use Rattle.apdu.specs.Values.{values_of}
use Rattle.apdu_reading.specs.declared.front.Answer.{Answer}
use Rattle.apdu_reading.specs.declared.front.Answer.TheVariants as answer
use Rattle.apdu_reading.specs.declared.front.Reading.{Reading}
use Rattle.apdu_reading.specs.Answers.{Reads}
use Rattle.apdu_writing.specs.Answer.{refused, octets, write_answer, write_output}

-- writing the record m over the lent octets t to out puts the octets s to its front
pub record Writes (s t : List ℕ) (m : Message) (es : List Entry) (rs : List Row) (out : List ℕ) : Type 0 where
  pub answer : write_answer t m es rs (length out) ≡ octets (length s)
  pub output : write_output t m es rs out ≡ s ++ drop (length s) out

-- it is refused with 22, and out stays
pub record TooSmall (t : List ℕ) (m : Message) (es : List Entry) (rs : List Row) (out : List ℕ) : Type 0 where
  pub answer : write_answer t m es rs (length out) ≡ refused 22
  pub output : write_output t m es rs out ≡ out

-- ---- writing what was read gives the same octets; only an output that is too small for them refuses it

pub record WrittenBack (s : List ℕ) (m : Message) (es : List Entry) (rs : List Row) : Type 0 where
  pub written : (out : List ℕ) → length s ≤ length out → Writes s s m es rs out
  pub small : (out : List ℕ) → length out < length s → TooSmall s m es rs out

unfoldable pub WritingRead : Type 0
WritingRead =
    (s : List ℕ) (r : Reading) (m : Message) → Octets s → Reads s r → r.answer ≡ answer.Message m → WrittenBack s m r.lists.entries r.lists.rows

-- ---- reading what was written gives the same message

-- a message over the octets s with the values vs: all fields and the strings' bits agree, wherever the strings stand; a refusal is no message
unfoldable pub same_by : List ℕ → Lists → List Value → Answer → Type 0
same_by s l vs (answer.Message m) = Same (values_of s m l.entries l.rows) vs
same_by s l vs (answer.Refused k p) = ⊥

unfoldable pub ReadingWritten : Type 0
ReadingWritten =
    (s t : List ℕ) (m : Message) (es : List Entry) (rs : List Row) (out : List ℕ) (r : Reading) → Writes s t m es rs out → Reads s r
    → same_by s r.lists (values_of t m es rs) r.answer

-- ---- so reading accepts exactly what writing gives

pub record Accepts (r : Reading) : Type 0 where
  pub m : Message
  pub is : r.answer ≡ answer.Message m

pub record Writable (s : List ℕ) : Type 0 where
  pub t : List ℕ
  pub m : Message
  pub es : List Entry
  pub rs : List Row
  pub out : List ℕ
  pub is : Writes s t m es rs out

unfoldable pub ReadingExact : Type 0
ReadingExact = (s : List ℕ) (r : Reading) → Octets s → Reads s r → (Accepts r → Writable s) × (Writable s → Accepts r)

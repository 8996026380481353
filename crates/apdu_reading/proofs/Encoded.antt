-- What was read, as a record, is in range: it passes the writer's check, and its values encode the octets that were read.
-- Assumes nothing.
use Prim.Native.Nat.{ℕ}
use mathlib.Core.Path.{◌≡◌, sym, ◌∙◌}
use mathlib.Core.List.{List}
use Rattle.apdu_format.specs.Reading.{read_message}
use Rattle.apdu_format.specs.RoundTrip.{Encodes}
use Rattle.apdu_format.proofs.RoundTrip.{written_read}
use Rattle.apdu.specs.declared.records.Message.{Message}
use Rattle.apdu.specs.Values.{values_of}
use Rattle.apdu_reading.specs.declared.front.Answer.TheVariants as answer
use Rattle.apdu_reading.specs.declared.front.Reading.{Reading}
use Rattle.apdu_reading.specs.Answers.{told, outcome_of}

-- r is what `read` answers for s, by its contract
pub record_encodes : (s : List ℕ) (r : Reading) → outcome_of s r ≡ read_message s → (m : Message) → r.answer ≡ answer.Message m
    → Encodes s (values_of s m r.lists.entries r.lists.rows)
unfolding outcome_of told
record_encodes s r h m e = written_read s (values_of s m r.lists.entries r.lists.rows) r.end (sym h ∙ rw e)

-- What writing a message answers and leaves in the output (01, "Messages": 23 before 21 before 22; refusal table, rows 21 to 23).
-- Assumes nothing.
use Rattle.std.specs.Prelude.{ℕ, Result, Ok, Err, List, [], ◌∷◌, ◌++◌, not, length, drop, ltb, eqb}
use Rattle.refusals.specs.Check.{pick, check, first_of}
use Rattle.apdu_format.specs.Limits.{longest_message}
use Rattle.apdu_format.specs.Writing.{size, encoded_octets}
use Rattle.apdu.specs.declared.lists.Row.{Row}
use Rattle.apdu.specs.declared.lists.Entry.{Entry}
use Rattle.apdu.specs.declared.records.Message.{Message}
use Rattle.apdu.specs.Values.{values_of}
use Rattle.apdu_writing.specs.declared.writing.WriteRefusal.{WriteRefusal}
use Rattle.apdu_writing.specs.declared.writing.WriteRefusal.TheVariants as refusal
use Rattle.apdu.specs.Sound.{well_formed}

-- 01's number, with its position where it has one; or how many octets were written
pub data Answer : Type 0 where
  refused : ℕ → Answer
  refused_at : ℕ → ℕ → Answer
  octets : ℕ → Answer

unfoldable pub answer_of : Result ℕ WriteRefusal → Answer
answer_of (Ok n) = octets n
answer_of (Err refusal.RecordOutOfRange) = refused 23
answer_of (Err (refusal.MessageTooLong p)) = refused_at 21 p
answer_of (Err refusal.OutputTooSmall) = refused 22

-- the refusal of writing to an output of n octets, or 0
unfoldable pub write_refusal : List ℕ → Message → List Entry → List Row → ℕ → ℕ
write_refusal s m es rs n =
    let vs = values_of s m es rs in
    first_of (check 23 (not (well_formed s m es rs)) ∷ check 21 (ltb longest_message (size vs)) ∷ check 22 (ltb n (size vs)) ∷ [])

-- 21 carries the number 512 as its position; 22 and 23 have none
unfoldable pub answered : ℕ → ℕ → Answer
answered k n = pick (eqb k 0) (octets n) (pick (eqb k 21) (refused_at 21 longest_message) (refused k))

unfoldable pub write_answer : List ℕ → Message → List Entry → List Row → ℕ → Answer
write_answer s m es rs n = answered (write_refusal s m es rs n) (size (values_of s m es rs))

-- the output afterwards: the message's octets from its front and every other octet as it was; a refusal changes nothing
unfoldable pub write_output : List ℕ → Message → List Entry → List Row → List ℕ → List ℕ
write_output s m es rs out =
    let vs = values_of s m es rs in pick (eqb (write_refusal s m es rs (length out)) 0) (encoded_octets vs ++ drop (size vs) out) out

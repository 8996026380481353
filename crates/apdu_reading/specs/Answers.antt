-- What the reader's answer says, in the words of apdu_format's definitions: for each of its cases 01's number and position, or the message's values in
-- their order and the place behind them. Tidy says that absent fields, unused rows and entries are 0, and so is everything beside a refusal. SoundRecord says
-- that each part which is present lies inside the octets read, and that each list has the rows that its counts announce; FewRows, that the rows of what is
-- present are at most 32: what 23 asks besides ranges. The arrays of rows and of entries have 32 elements. Reads is all of it: what `read` promises,
-- and ReadOnce, that the octets determine the whole record.
-- Assumes nothing.
use Rattle.std.specs.Prelude.{ℕ, ◌*◌, ◌/◌, ◌≡◌, List, true, length, replicate, eqb, ltb}
use Rattle.refusals.specs.Check.{pick}
use Rattle.apdu_format.specs.Component.{choice}
use Rattle.apdu_format.specs.Reading.{Outcome, refused, message, read_message}
use Rattle.apdu.specs.declared.lists.Lists.{Lists}
use Rattle.apdu.specs.declared.records.Message.{Message}
use Rattle.apdu.specs.Values.{values_of, empty_row, empty_entry}
use Rattle.apdu.specs.Tidy.{message_tidy, EntriesTidy, RowsTidy}
use Rattle.apdu.specs.Sound.{sound, rows_fit}
use Rattle.apdu_reading.specs.declared.cursor.Cursor.{Cursor}
use Rattle.apdu_reading.specs.declared.front.Answer.{Answer}
use Rattle.apdu_reading.specs.declared.front.Answer.TheVariants as answer
use Rattle.apdu_reading.specs.declared.front.Reading.{Reading}
use Rattle.apdu_reading.specs.Cursor.{cursor, component}

unfoldable pub told : List ℕ → Lists → ℕ → Answer → Outcome
told s l end (answer.Message m) = message (values_of s m l.entries l.rows) end
told s l end (answer.Refused k p) = refused k p

unfoldable pub outcome_of : List ℕ → Reading → Outcome
outcome_of s r = told s r.lists r.end r.answer

unfoldable pub tidy_by : Lists → ℕ → Answer → Type 0
tidy_by l end (answer.Message m) = message_tidy m l.entries l.rows
tidy_by l end (answer.Refused k p) = (end ≡ 0) × EntriesTidy 0 l.entries × RowsTidy 0 l.rows

pub record Tidy (r : Reading) : Type 0 where
  pub is : tidy_by r.lists r.end r.answer

unfoldable pub sound_by : ℕ → Lists → Answer → Type 0
sound_by octets l (answer.Message m) = sound octets m l.entries l.rows ≡ true
sound_by octets l (answer.Refused k p) = Unit {0}

pub record SoundRecord (s : List ℕ) (r : Reading) : Type 0 where
  pub is : sound_by (length s) r.lists r.answer

unfoldable pub few_by : Lists → Answer → Type 0
few_by l (answer.Message m) = rows_fit m l.entries ≡ true
few_by l (answer.Refused k p) = Unit {0}

pub record FewRows (r : Reading) : Type 0 where
  pub is : few_by r.lists r.answer

-- r is what reading s answers
pub record Reads (s : List ℕ) (r : Reading) : Type 0 where
  pub outcome : outcome_of s r ≡ read_message s
  pub tidy : Tidy r
  pub sound : SoundRecord s r
  pub few : FewRows r
  pub rows : length r.lists.rows ≡ 32
  pub entries : length r.lists.entries ≡ 32

-- read twice, the same record: whatever meets that promise has one answer, one place behind the message, and the same entries and rows
unfoldable pub ReadOnce : Type 0
ReadOnce = (s : List ℕ) (r q : Reading) → Reads s r → Reads s q → r ≡ q

-- ---- within the crate

abbrev pub no_lists : Lists
no_lists = record { entries = replicate 32 empty_entry; rows = replicate 32 empty_row }

unfoldable pub refusal : ℕ → ℕ → Reading
refusal k p = record { answer = answer.Refused k p; end = 0; lists = no_lists }

-- the cursor at the front of a message
abbrev pub first : Cursor
first = cursor 0 0 32 0 0 0 0

-- a choice was read
pub record Chosen (s : List ℕ) (c : Cursor) : Type 0 where
  pub is : c ≡ component s choice first
  pub clean : c.fault ≡ 0

-- the cursor behind a message, or 14 where octets are left
unfoldable pub ended_by : List ℕ → Cursor → Cursor
ended_by s c = pick (eqb c.fault 0) (pick (ltb c.at (8 * length s)) (cursor c.at c.begun c.room 14 (c.at / 8) 0 0) c) c

-- what is answered where a message ends at c, and the place behind it
unfoldable pub answer_of : Cursor → Message → Answer
answer_of c m = pick (eqb c.fault 0) (answer.Message m) (answer.Refused c.fault c.position)

unfoldable pub place_of : Cursor → ℕ
place_of c = pick (eqb c.fault 0) c.at 0

-- The packed answer of the reader's record is that of the outcome it stands for. Assumes nothing.
use mathlib.Core.Path.{◌≡◌, refl, ap, ◌∙◌}
use mathlib.Core.List.{List}
use Prim.Native.Nat.{ℕ}
use Rattle.apdu_format.specs.Reading.{read_message}
use Rattle.apdu.specs.declared.records.Message.{Message}
use Rattle.apdu.specs.declared.records.Message.TheVariants as kind
use Rattle.apdu.specs.declared.lists.Lists.{Lists}
use Rattle.apdu.specs.declared.lists.Entry.{Entry}
use Rattle.apdu.specs.declared.lists.Row.{Row}
use Rattle.apdu.specs.Values.{values_of}
use Rattle.apdu_reading.specs.declared.front.Answer.{Answer}
use Rattle.apdu_reading.specs.declared.front.Answer.TheVariants as answer
use Rattle.apdu_reading.specs.declared.front.Reading.{Reading}
use Rattle.apdu_reading.specs.Answers.{told, outcome_of}
use Rattle.words.specs.Answer.{answer_number}
use Rattle.exports.specs.Messages.{choice_in, choice_of, check_number, checked_number}

-- a record's values begin with its choice
choice_first : (s : List ℕ) (m : Message) (es : List Entry) (rs : List Row) → choice_of m ≡ choice_in (values_of s m es rs)
unfolding choice_in values_of
choice_first s (kind.ActionRequest m) es rs = refl
choice_first s (kind.ActionResponse m) es rs = refl
choice_first s (kind.EventRequest m) es rs = refl
choice_first s (kind.EventResponse m) es rs = refl
choice_first s (kind.SetRequest m) es rs = refl
choice_first s (kind.SetResponse m) es rs = refl
choice_first s (kind.GetRequest m) es rs = refl
choice_first s (kind.GetResponse m) es rs = refl
choice_first s (kind.Bst m) es rs = refl
choice_first s (kind.Vst m) es rs = refl

checked_by : (s : List ℕ) (l : Lists) (end : ℕ) (a : Answer) → checked_number a ≡ check_number (told s l end a)
unfolding check_number told
checked_by s l end (answer.Message m) = ap (λ (k : ℕ). answer_number 0 k 0 0) (choice_first s m l.entries l.rows)
checked_by s l end (answer.Refused k p) = refl

pub checked_is : (s : List ℕ) (r : Reading) → outcome_of s r ≡ read_message s → checked_number r.answer ≡ check_number (read_message s)
unfolding outcome_of
checked_is s r e = checked_by s r.lists r.end r.answer ∙ ap check_number e

-- One line of a recording as exported (01, "The bench program"): joined by the table that the lent words are, and its line of output at the front of a lent
-- text of at least 128 octets, which is more than any line has. With less room nothing happens, and the refusal is 22.
-- Assumes nothing.
use Rattle.std.specs.Prelude.{ℕ, ◌≡◌, Bool, true, false, List, length, ltb}
use Rattle.refusals.specs.Check.{pick, refused}
use Rattle.bench_lines.specs.declared.BenchAnswer.{BenchAnswer}
use Rattle.bench_lines.specs.declared.BenchAnswer.TheVariants as shown
use Rattle.bench_lines.specs.Line.{read_line}
use Rattle.bench_lines.specs.Text.{answer_line_text, written}
use Rattle.bench_joining.specs.declared.Columns.{Columns}
use Rattle.slots.specs.declared.Table.{Table}
use Rattle.bench_joining.specs.Joined.{LineJoined, lsdu_of}
use Rattle.words.specs.Answer.{answer_number, Says}
use Rattle.words.specs.TableWords.{table_in}
use Rattle.exports.specs.Fragments.{kept_words}

-- the room that is asked for, and room for the LSDU of any line
abbrev pub text_octets : ℕ
text_octets = 128

abbrev pub lsdu_room : ℕ
lsdu_room = 300

unfoldable pub is_accepted : BenchAnswer → Bool
is_accepted shown.Held = true
is_accepted shown.Whole = true
is_accepted (shown.Refused number) = false

-- the line of output
unfoldable pub output_line : ℕ → Columns → List ℕ
output_line number columns = answer_line_text number columns.answer columns.octets columns.dropped

-- the line is taken and shown
pub record LineShown (number : ℕ) (line words store output text : List ℕ) (r : ℕ) (words' store' output' text' : List ℕ) : Type 0 where
  pub columns : Columns
  pub table : Table
  pub joined : LineJoined (read_line line lsdu_room) (lsdu_of line) (table_in words) store output columns table store' output'
  pub words_are : words' ≡ kept_words (is_accepted columns.answer) table words
  pub table_back : table_in words' ≡ table
  pub text_is : text' ≡ written text 0 (output_line number columns)
  pub number_is : r ≡ answer_number 0 0 (length (output_line number columns)) 0
  pub says : Says r 0 0 (length (output_line number columns)) 0

-- too little room for the text
pub record TextRefused (words store output text : List ℕ) (r : ℕ) (words' store' output' text' : List ℕ) : Type 0 where
  pub number_is : r ≡ answer_number 22 0 0 0
  pub words_are : words' ≡ words
  pub store_is : store' ≡ store
  pub output_is : output' ≡ output
  pub text_is : text' ≡ text

-- the contract
unfoldable pub BenchLineExported : (number : ℕ) → (line words store output text : List ℕ) → (r : ℕ) → (words' store' output' text' : List ℕ) → Type 0
BenchLineExported number line words store output text r words' store' output' text' =
    pick (ltb (length text) text_octets) (TextRefused words store output text r words' store' output' text')
    (LineShown number line words store output text r words' store' output' text')

-- ---- the promise (proofs/BenchLaws.antt proves it; `bench_line` cites it): no line is refused for want of room

unfoldable pub RoomForEach : Type 0
RoomForEach = (line : List ℕ) → read_line line lsdu_room ≡ refused 22 → ⊥

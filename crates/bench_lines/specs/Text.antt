-- What the bench prints (01, "The bench program"): the heading, a line for each line read, and the totals. Fields are parted by one space, and each
-- line ends with a line feed. Text is appended to a lent buffer from a place on. What 01 leaves open: where the buffer has no room for
-- the whole text, it is refused with 22 and nothing is written.
-- Assumes nothing.
use Rattle.std.specs.Prelude.{ℕ, ◌+◌, List, [], ◌∷◌, ◌++◌, Bool, leb, length, take, drop}
use Rattle.refusals.specs.Check.{pick, Answer, refused, accepted}
use Rattle.bench_lines.specs.Numerals.{decimal_before}
use Rattle.bench_lines.specs.declared.BenchAnswer.{BenchAnswer}
use Rattle.bench_lines.specs.declared.BenchAnswer.TheVariants as answer
use Rattle.bench_lines.specs.declared.Totals.{Totals}

-- ---- words and lines

-- a number and the character behind it
unfoldable pub number_text : ℕ → ℕ → List ℕ
number_text n end = decimal_before n (end ∷ [])

-- a word, a number and the character behind it
unfoldable pub named_text : List ℕ → ℕ → ℕ → List ℕ
named_text word n end = word ++ number_text n end

-- the words of answers and totals, each with the character behind it
abbrev pub held_word : List ℕ
held_word = 104 ∷ 101 ∷ 108 ∷ 100 ∷ 32 ∷ []

abbrev pub whole_word : List ℕ
whole_word = 119 ∷ 104 ∷ 111 ∷ 108 ∷ 101 ∷ 32 ∷ []

abbrev pub refused_word : List ℕ
refused_word = 114 ∷ 101 ∷ 102 ∷ 117 ∷ 115 ∷ 101 ∷ 100 ∷ 45 ∷ []

abbrev pub accepted_word : List ℕ
accepted_word = 97 ∷ 99 ∷ 99 ∷ 101 ∷ 112 ∷ 116 ∷ 101 ∷ 100 ∷ 32 ∷ []

abbrev pub delivered_word : List ℕ
delivered_word = 100 ∷ 101 ∷ 108 ∷ 105 ∷ 118 ∷ 101 ∷ 114 ∷ 101 ∷ 100 ∷ 32 ∷ []

abbrev pub dropped_word : List ℕ
dropped_word = 100 ∷ 114 ∷ 111 ∷ 112 ∷ 112 ∷ 101 ∷ 100 ∷ 32 ∷ []

-- `held `, `whole `, `refused-N `
unfoldable pub answer_text : BenchAnswer → List ℕ
answer_text answer.Held = held_word
answer_text answer.Whole = whole_word
answer_text (answer.Refused n) = named_text refused_word n 32

-- `line answer octets dropped`
unfoldable pub heading_text : List ℕ
heading_text =
    108 ∷ 105 ∷ 110 ∷ 101 ∷ 32
    ∷ 97 ∷ 110 ∷ 115 ∷ 119 ∷ 101 ∷ 114 ∷ 32
    ∷ 111 ∷ 99 ∷ 116 ∷ 101 ∷ 116 ∷ 115 ∷ 32
    ∷ 100 ∷ 114 ∷ 111 ∷ 112 ∷ 112 ∷ 101 ∷ 100 ∷ 10 ∷ []

-- line number, answer, octets, octets dropped
unfoldable pub answer_line_text : ℕ → BenchAnswer → ℕ → ℕ → List ℕ
answer_line_text line a octets dropped = number_text line 32 ++ (answer_text a ++ (number_text octets 32 ++ number_text dropped 10))

-- `accepted N delivered N dropped N held N`
unfoldable pub totals_text : Totals → List ℕ
totals_text t =
    named_text accepted_word t.accepted 32
    ++ (named_text delivered_word t.delivered 32 ++ (named_text dropped_word t.dropped 32 ++ named_text held_word t.held 10))

-- ---- appending text to a buffer

-- the buffer with text from a place on, and every other octet as it was
unfoldable pub written : List ℕ → ℕ → List ℕ → List ℕ
written out at text = take at out ++ (text ++ drop (at + length text) out)

-- whether so many octets lie inside a buffer from a place on
unfoldable pub has_room : (room at octets : ℕ) → Bool
has_room room at octets = leb (at + octets) room

-- the place behind the text, or refusal 22 where it has no room
unfoldable pub append_text : List ℕ → ℕ → List ℕ → Answer ℕ
append_text out at text = pick (has_room (length out) at (length text)) (accepted (at + length text)) (refused 22)

-- the buffer after an answer: with the text from the place on; a refusal leaves all as it was
unfoldable pub output_after : Answer ℕ → List ℕ → ℕ → List ℕ → List ℕ
output_after (refused k) out at text = out
output_after (accepted n) out at text = written out at text

-- A line of a recording (01, "The bench program"): LID, tick and LSDU, one space between. A line not of this form is refused with 0.
--   LID: 7 hex digits. Tick: a decimal number below 2^32, of any number of digits. LSDU: hex of even length; if empty, its space stays.
-- The line feed is no part of a line. What 01 leaves open: an LSDU that is longer than the lent buffer is refused with 22, once the form is right.
-- Assumes nothing.
use Rattle.std.specs.Prelude.{ℕ, suc, ◌+◌, ◌/◌, ◌%◌, ◌^◌, Bool, true, ◌&&◌, List, [], ◌∷◌, ◌++◌, leb, ltb, eqb, length, drop, Result, Ok, Err}
use Rattle.std.proofs.Math.Seq.{slice}
use Rattle.refusals.specs.Check.{pick, Answer, refused, accepted}
use Rattle.bench_lines.specs.Numerals.{all_digits, spelled, octets_of, digit_for, digits_before, decimal_before}
use Rattle.bench_lines.specs.declared.Line.{Line}
use Rattle.bench_lines.specs.declared.LineRefusal.{LineRefusal}
use Rattle.bench_lines.specs.declared.LineRefusal.TheVariants as refusal

-- ---- 01's limits

-- the most characters of a line, the hex digits of a LID, and the number that a tick is below
abbrev pub longest_line : ℕ
longest_line = 600

abbrev pub lid_digits : ℕ
lid_digits = 7

abbrev pub tick_bound : ℕ
tick_bound = 2 ^ 32

-- ---- the three fields

-- how many characters stand before the first mark; all of them where there is none
unfoldable pub before : ℕ → List ℕ → ℕ
before mark [] = 0
before mark (c ∷ s) = pick (eqb c mark) 0 (suc (before mark s))

-- the place of the first space, and of the second; the line's end where there is none
unfoldable pub first_space : List ℕ → ℕ
first_space line = before 32 line

unfoldable pub second_space : List ℕ → ℕ
second_space line = first_space line + 1 + before 32 (drop (first_space line + 1) line)

-- what stands before the first space, between the two, and behind the second
unfoldable pub lid_text : List ℕ → List ℕ
lid_text line = slice 0 (first_space line) line

unfoldable pub tick_text : List ℕ → List ℕ
tick_text line = slice (first_space line + 1) (second_space line) line

unfoldable pub lsdu_text : List ℕ → List ℕ
lsdu_text line = drop (second_space line + 1) line

-- whether all of these hold
unfoldable pub all_hold : List Bool → Bool
all_hold [] = true
all_hold (b ∷ bs) = b && all_hold bs

-- at most 600 characters; 7 hex digits, a space; at least one decimal digit, of a number below 2^32, a space; an even number of hex digits
unfoldable pub has_form : List ℕ → Bool
has_form line =
    all_hold
    (leb (length line) longest_line
    ∷ eqb (first_space line) lid_digits
    ∷ ltb (second_space line) (length line)
    ∷ all_digits 16 (lid_text line)
    ∷ ltb 0 (length (tick_text line))
    ∷ all_digits 10 (tick_text line)
    ∷ ltb (spelled 10 (tick_text line)) tick_bound
    ∷ eqb (length (lsdu_text line) % 2) 0
    ∷ all_digits 16 (lsdu_text line)
    ∷ []
    )

-- ---- reading a line

-- the fields of a line: LID, tick, and how many octets its LSDU has
pub record Fields : Type 0 where
  pub lid : ℕ
  pub tick : ℕ
  pub octets : ℕ

unfoldable pub fields_of : List ℕ → Fields
fields_of line =
    record { lid = spelled 16 (lid_text line); tick = spelled 10 (tick_text line); octets = length (lsdu_text line) / 2 }

-- refusal 0 for a line not of this form, then 22 where the buffer's room is too small for the LSDU
unfoldable pub read_line : List ℕ → ℕ → Answer Fields
read_line line room =
    pick (has_form line) (pick (leb (fields_of line).octets room) (accepted (fields_of line)) (refused 22)) (refused 0)

-- 01's number of each refusal
abbrev pub line_refusal_number : LineRefusal → ℕ
line_refusal_number refusal.NotALine = 0
line_refusal_number refusal.OutputTooSmall = 22

-- 01's number and values for each case of the reader's answer
abbrev pub line_answer : Result Line LineRefusal → Answer Fields
line_answer (Ok l) = accepted (record { lid = l.lid; tick = l.tick; octets = l.octets })
line_answer (Err r) = refused (line_refusal_number r)

-- the buffer after an answer: the LSDU at its front and the rest as it was; a refusal leaves all as it was
unfoldable pub lsdu_after : Answer Fields → List ℕ → List ℕ → List ℕ
lsdu_after (refused k) line buffer = buffer
lsdu_after (accepted f) line buffer = octets_of (lsdu_text line) ++ drop f.octets buffer

-- ---- printing a line

-- octets in hex
unfoldable pub hex_text : List ℕ → List ℕ
hex_text [] = []
hex_text (o ∷ s) = digit_for (o / 16) ∷ (digit_for (o % 16) ∷ hex_text s)

-- LID, tick and LSDU as a line; of a LID its last digits
unfoldable pub line_text : ℕ → ℕ → List ℕ → List ℕ
line_text lid tick lsdu = digits_before 16 lid_digits lid (32 ∷ decimal_before tick (32 ∷ hex_text lsdu))

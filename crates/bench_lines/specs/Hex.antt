-- A line that is hex: an even number of digits of either case, at most so many. Another line is refused with 0. No characters are no octets. What is left
-- open: octets that the lent buffer has no room for are refused with 22.
-- Assumes nothing.
use Rattle.std.specs.Prelude.{ℕ, ◌/◌, ◌%◌, Bool, ◌&&◌, List, ◌++◌, leb, eqb, length, drop, Result, Ok, Err}
use Rattle.refusals.specs.Check.{pick, Answer, refused, accepted}
use Rattle.bench_lines.specs.Numerals.{all_digits, octets_of}
use Rattle.bench_lines.specs.declared.LineRefusal.{LineRefusal}
use Rattle.bench_lines.specs.Line.{line_refusal_number}

unfoldable pub is_hex : List ℕ → ℕ → Bool
is_hex line most = leb (length line) most && (eqb (length line % 2) 0 && all_digits 16 line)

-- how many octets the line spells
unfoldable pub read_hex : List ℕ → (most room : ℕ) → Answer ℕ
read_hex line most room = pick (is_hex line most) (pick (leb (length line / 2) room) (accepted (length line / 2)) (refused 22)) (refused 0)

-- 01's number and value for each case of the answer
abbrev pub hex_answer : Result ℕ LineRefusal → Answer ℕ
hex_answer (Ok n) = accepted n
hex_answer (Err r) = refused (line_refusal_number r)

-- the buffer after an answer: the octets at its front and the rest as it was; a refusal leaves all as it was
unfoldable pub buffer_after_hex : Answer ℕ → List ℕ → List ℕ → List ℕ
buffer_after_hex (refused k) line buffer = buffer
buffer_after_hex (accepted n) line buffer = octets_of line ++ drop n buffer

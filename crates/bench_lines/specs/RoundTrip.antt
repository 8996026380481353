-- What printing and reading a line are to each other, and why a line may come in parts. `read_line` promises that a printed line reads back, `keep_part`
-- that a line of any number of parts is kept as if it came at once, and that it then reads as the whole line, if the buffer has room for one character more than
-- the longest line has, and only then. proofs/RoundTrip.antt and proofs/Parts.antt prove each.
-- Assumes nothing.
use Rattle.std.specs.Prelude.{ℕ, ◌%◌, ◌^◌, ◌<◌, ◌≡◌, Bool, ◌&&◌, leb, ltb, length, drop}
use mathlib.Core.List.{List, ◌∷◌, ◌++◌, flatten}
use Rattle.refusals.specs.Check.{pick, refused, accepted}
use Rattle.bits.specs.Bits.{Octets}
use Rattle.bench_lines.specs.Line.{longest_line, lid_digits, tick_bound, Fields, read_line, lsdu_after, line_text}
use Rattle.bench_lines.specs.Splitting.{LineSoFar, none_in, kept_of, with_part, with_parts}

-- ---- printed, then read

-- whether 01's form has place for these; of a LID it always has, for the last seven digits
unfoldable pub has_place : ℕ → ℕ → List ℕ → Bool
has_place lid tick lsdu = leb (length (line_text lid tick lsdu)) longest_line && ltb tick tick_bound

-- the fields of a printed line: the LID's digits that were printed, which are all of one below 2^28; the tick; and the LSDU's octets
abbrev pub printed : ℕ → ℕ → List ℕ → Fields
printed lid tick lsdu = record { lid = lid % 16 ^ lid_digits; tick = tick; octets = length lsdu }

-- what is printed is given back: refused with 0 only where the form has no place for it, then with 22 where the buffer is shorter than the LSDU
pub record GivenBack (lid tick : ℕ) (lsdu buffer : List ℕ) : Type 0 where
  pub answer : read_line (line_text lid tick lsdu) (length buffer)
      ≡ pick (has_place lid tick lsdu) (pick (leb (length lsdu) (length buffer)) (accepted (printed lid tick lsdu)) (refused 22)) (refused 0)
  pub front : lsdu_after (accepted (printed lid tick lsdu)) (line_text lid tick lsdu) buffer ≡ lsdu ++ drop (length lsdu) buffer

unfoldable pub ReadingPrinted : Type 0
ReadingPrinted = (lid tick : ℕ) (lsdu buffer : List ℕ) → Octets lsdu → GivenBack lid tick lsdu buffer

-- ---- kept in parts, then read

-- a line with parts more is the line with all of them at once
unfoldable pub KeepingParts : Type 0
KeepingParts = (l : LineSoFar) (part : List ℕ) (parts : List (List ℕ)) → with_parts l (part ∷ parts) ≡ with_part l (flatten (part ∷ parts))

-- every line, however long and of however many parts, reads from this buffer as the whole line
unfoldable pub ReadsAsWhole : List ℕ → Type 0
ReadsAsWhole buffer = (parts : List (List ℕ)) (room : ℕ) → read_line (kept_of (with_parts (none_in buffer) parts)) room ≡ read_line (flatten parts) room

-- exactly a buffer of more octets than the longest line has does so
unfoldable pub ReadingKept : Type 0
ReadingKept = (buffer : List ℕ) → (longest_line < length buffer → ReadsAsWhole buffer) × (ReadsAsWhole buffer → longest_line < length buffer)

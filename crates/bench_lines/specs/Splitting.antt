-- Lines out of octets that come in parts (01, "The bench program": lines of at most 600 characters). A line ends before a line feed. The line so far is
-- kept in a lent buffer, as much of it as the buffer has room for: with room for 601, a line that is too long still is (RoundTrip, ReadingKept).
-- Assumes nothing.
use Rattle.std.specs.Prelude.{ℕ, ◌+◌, ◌<◌, ◌≡◌, List, [], ◌∷◌, ◌++◌, length, take, drop}
use Rattle.bench_lines.specs.Line.{before}

-- the place of the first line feed from a place on; the input's end where there is none, and the place itself where it lies behind that
unfoldable pub line_end : List ℕ → ℕ → ℕ
line_end input from = from + before 10 (drop from input)

-- an input with a line feed, cut at the first one: the line before it and what stands behind it
pub record FirstLine (input line behind : List ℕ) : Type 0 where
  pub inside : line_end input 0 < length input
  pub line_is : line ≡ take (line_end input 0) input
  pub behind_is : behind ≡ drop (line_end input 0 + 1) input

-- the first octets of a buffer and a part more, as much as the buffer has room for
unfoldable pub kept_line : List ℕ → ℕ → List ℕ → List ℕ
kept_line buffer held part = take (length buffer) (take held buffer ++ part)

-- the buffer with these octets at its front, and every other octet as it was
unfoldable pub buffer_after : List ℕ → List ℕ → List ℕ
buffer_after line buffer = line ++ drop (length line) buffer

-- ---- a line of several parts

-- a line that has not ended: so many octets at the front of a buffer
pub record LineSoFar : Type 0 where
  pub buffer : List ℕ
  pub held : ℕ

-- none of a line
abbrev pub none_in : List ℕ → LineSoFar
none_in buffer = record { buffer = buffer; held = 0 }

-- what is kept of it
abbrev pub kept_of : LineSoFar → List ℕ
kept_of l = take l.held l.buffer

-- the line with a part more, as `keep_part` leaves it
unfoldable pub with_part : LineSoFar → List ℕ → LineSoFar
with_part l part =
    let line = kept_line l.buffer l.held part in
    record { buffer = buffer_after line l.buffer; held = length line }

-- and with parts more, one call for each
unfoldable pub with_parts : LineSoFar → List (List ℕ) → LineSoFar
with_parts l [] = l
with_parts l (part ∷ parts) = with_parts (with_part l part) parts

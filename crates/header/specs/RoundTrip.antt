-- Demand 2 for fragment headers: what reading and writing are to each other, told by what the two calls answer and what writing leaves in the
-- output. `read` promises that what was written reads back, and that it accepts exactly what writing gives; `write` promises that what was
-- read is written as it was. proofs/RoundTrip.antt proves each.
-- Assumes nothing.
use Rattle.std.specs.Prelude.{ℕ, ◌≤◌, ◌≡◌, List, ◌++◌, length, take, drop, ltb}
use Rattle.refusals.specs.Check.{pick, refused, accepted}
use Rattle.bits.specs.Bits.{Octets}
use Rattle.header.specs.Header.{read_header, write_header, output_after}
use Rattle.header.specs.declared.Header.{Header}
use Rattle.header.specs.declared.HeaderRead.{HeaderRead}

-- reading what was written to the front of an output gives the header and its size, whatever follows it there
unfoldable pub ReadingWritten : Type 0
ReadingWritten =
    (h : Header) (output : List ℕ) (n : ℕ) → write_header h (length output) ≡ accepted n
    → read_header (output_after (accepted n) h output) ≡ accepted (record { header = h; size = n })

-- the header f, read from s, is written to the front of an output
pub record Rewritten (s : List ℕ) (f : HeaderRead) (output : List ℕ) : Type 0 where
  -- the octets read lie in s
  pub inside : f.size ≤ length s
  -- only an output that is shorter than these is refused, with 22
  pub answer : write_header f.header (length output) ≡ pick (ltb (length output) f.size) (refused 22) (accepted f.size)
  -- else they stand at its front, and the rest is as it was
  pub same : output_after (accepted f.size) f.header output ≡ take f.size s ++ drop f.size output

-- writing what was read gives the octets read
unfoldable pub WritingRead : Type 0
WritingRead = (s : List ℕ) (f : HeaderRead) (output : List ℕ) → Octets s → read_header s ≡ accepted f → Rewritten s f output

-- s is what some output holds after the header h was written to its front in n octets
pub record WrittenAs (s : List ℕ) (h : Header) (n : ℕ) : Type 0 where
  pub output : List ℕ
  pub answer : write_header h (length output) ≡ accepted n
  pub is : s ≡ output_after (accepted n) h output

-- reading accepts exactly what writing gives
unfoldable pub ReadingExact : Type 0
ReadingExact =
    (s : List ℕ) (h : Header) (n : ℕ) → Octets s
    → (WrittenAs s h n → read_header s ≡ accepted (record { header = h; size = n }))
    × (read_header s ≡ accepted (record { header = h; size = n }) → WrittenAs s h n)

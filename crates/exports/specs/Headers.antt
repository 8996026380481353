-- The fragment header as exported: an answer is one number (words, Answer). Of a header read the kind is the PDU number, the first number the counter, the
-- second the header's octets and 4 more with the last mark; of one written the first number is how many octets it has. The last mark is handed in as 0 or
-- any other number; a PDU number above 255 becomes 255, which is out of range too (23).
-- Assumes nothing.
use Rattle.std.specs.Prelude.{ℕ, ◌+◌, ◌*◌, ◌/◌, ◌%◌, ◌<◌, ◌≡◌, Bool, not, List, eqb}
use Rattle.refusals.specs.Check.{Answer, refused, accepted}
use Rattle.bits.specs.Bits.{Octets}
use Rattle.header.specs.declared.Header.{Header}
use Rattle.header.specs.declared.HeaderRead.{HeaderRead}
use Rattle.header.specs.Header.{bit_of, read_header, write_header}
use Rattle.words.specs.Answer.{answer_number, number_in, kind_in, first_in, second_in, Says, SaysRefused}
use Rattle.words.specs.Word.{narrow_to}

-- a header has at most three octets
abbrev pub size_and_mark : ℕ → Bool → ℕ
size_and_mark size last = size % 4 + 4 * bit_of last

unfoldable pub read_number : Answer HeaderRead → ℕ
read_number (accepted f) = answer_number 0 f.header.number f.header.counter (size_and_mark f.size f.header.last)
read_number (refused number) = answer_number number 0 0 0

-- the header that is handed in
unfoldable pub header_from : (last number counter : ℕ) → Header
header_from last number counter = record { last = not (eqb last 0); number = narrow_to 8 number; counter = counter }

unfoldable pub written_number : Answer ℕ → ℕ
written_number (accepted octets) = answer_number 0 0 octets 0
written_number (refused number) = answer_number number 0 0 0

-- ---- what a caller takes out of a number r

-- the header that was read: its size is the second number modulo 4, and its last mark what is left of that number
pub record HeaderSays (r : ℕ) (f : HeaderRead) : Type 0 where
  pub number_is : number_in r ≡ 0
  pub kind_is : kind_in r ≡ f.header.number
  pub first_is : first_in r ≡ f.header.counter
  pub size_is : second_in r % 4 ≡ f.size
  pub last_is : second_in r / 4 ≡ bit_of f.header.last

unfoldable pub ReadSays : (r : ℕ) → Answer HeaderRead → Type 0
ReadSays r (accepted f) = HeaderSays r f
ReadSays r (refused number) = SaysRefused r number 0

unfoldable pub WrittenSays : (r : ℕ) → Answer ℕ → Type 0
WrittenSays r (accepted octets) = Says r 0 0 octets 0
WrittenSays r (refused number) = SaysRefused r number 0

-- ---- promises (proofs/HeaderLaws.antt proves each; `header_read` cites the first, `header_write` the others)

-- what is taken out of the number is what reading answers
unfoldable pub UnpackingRead : Type 0
UnpackingRead = (s : List ℕ) → Octets s → ReadSays (read_number (read_header s)) (read_header s)

-- and what writing answers
unfoldable pub UnpackingWritten : Type 0
UnpackingWritten = (h : Header) (room : ℕ) → WrittenSays (written_number (write_header h room)) (write_header h room)

-- every PDU number above 15 is out of range, however large
unfoldable pub LargeNumber : Type 0
LargeNumber = (last number counter room : ℕ) → 15 < number → write_header (header_from last number counter) room ≡ refused 23

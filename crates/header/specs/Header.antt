-- The fragment header (01, "Fragment header"; ISO 15628, 6.3.3, Figure 9), bit by bit as the figure prints it:
--   first octet: last mark, four bits of PDU number, two bits of counter, end bit
--   second octet, if the first's end bit is 0: seven more bits of counter, end bit
--   third octet, if the second's end bit is 0: seven more bits of counter, and a 0 (6.3.3.7)
-- Assumes nothing.
use Rattle.std.specs.Prelude.{ℕ, ◌+◌, ◌*◌, ◌/◌, Bool, true, false, ◌&&◌, List, [], ◌∷◌, ◌++◌, length, drop, ltb, eqb, Result, Ok, Err}
use Rattle.refusals.specs.Check.{pick, check, first_of, Answer, refused, accepted, decided}
use Rattle.refusals.specs.Refusal.{number_of}
use Rattle.refusals.specs.declared.Refusal.{Refusal}
use Rattle.bits.specs.Bits.{digits, field, octets}
use Rattle.header.specs.declared.Header.{Header}
use Rattle.header.specs.declared.HeaderRead.{HeaderRead}

-- ---- reading

-- the end bit of octet i
unfoldable pub end_bit : List ℕ → ℕ → ℕ
end_bit s i = field s (8 * i + 7) 1

-- how many octets the end bits give the header
unfoldable pub header_length : List ℕ → ℕ
header_length s = pick (eqb (end_bit s 0) 1) 1 (pick (eqb (end_bit s 1) 1) 2 3)

-- the counter in one octet, and with seven bits more in two and in three
unfoldable pub counter_in : List ℕ → ℕ → ℕ
counter_in s n =
    pick (eqb n 1) (field s 5 2)
    (pick (eqb n 2) (field s 5 2 * 128 + field s 8 7) ((field s 5 2 * 128 + field s 8 7) * 128 + field s 16 7))

-- how many octets a counter needs: one for 0 to 3, two for 4 to 511, three for 512 to 65,535
unfoldable pub length_for : ℕ → ℕ
length_for counter = pick (ltb counter 4) 1 (pick (ltb counter 512) 2 3)

-- the header at the front of s
unfoldable pub header_of : List ℕ → Header
header_of s = record { last = eqb (field s 0 1) 1; number = field s 1 4; counter = counter_in s (header_length s) }

-- refusal 5: cut short; the third octet's bit 0 is 1; longer than its counter needs
unfoldable pub read_refusal : List ℕ → ℕ
read_refusal s =
    first_of
    (check 5 (ltb (length s) (header_length s))
    ∷ check 5 (eqb (header_length s) 3 && eqb (end_bit s 2) 1)
    ∷ check 5 (ltb (length_for (header_of s).counter) (header_length s))
    ∷ []
    )

-- the header that is read, with its size in octets
unfoldable pub read_header : List ℕ → Answer HeaderRead
read_header s = decided (read_refusal s) (record { header = header_of s; size = header_length s })

-- 01's number and values for each case of the reader's answer
abbrev pub read_answer : Result HeaderRead Refusal → Answer HeaderRead
read_answer (Ok read) = accepted read
read_answer (Err refusal) = refused (number_of refusal)

-- ---- writing

abbrev pub bit_of : Bool → ℕ
bit_of true = 1
bit_of false = 0

-- the first octet's bits: digits keeps the two low bits of what is left of the counter
abbrev pub first_bits : Header → ℕ → ℕ → List ℕ
first_bits h counter end = digits 1 (bit_of h.last) ++ (digits 4 h.number ++ (digits 2 counter ++ digits 1 end))

-- the bits of an octet that continues the counter
abbrev pub next_bits : ℕ → ℕ → List ℕ
next_bits counter end = digits 7 counter ++ digits 1 end

-- the header's bits in one, two and three octets
unfoldable pub header_bits : Header → List ℕ
header_bits h =
    let c = h.counter in
    pick (ltb c 4) (first_bits h c 1)
    (pick (ltb c 512) (first_bits h (c / 128) 0 ++ next_bits c 1) (first_bits h (c / 16384) 0 ++ (next_bits (c / 128) 0 ++ next_bits c 0)))

-- the octets of a header whose fields are in range
unfoldable pub header_octets : Header → List ℕ
header_octets h = octets (length_for h.counter) (header_bits h)

-- refusal 23 for a field out of range, then 22 for an output of n octets that is too short
unfoldable pub write_refusal : Header → ℕ → ℕ
write_refusal h n =
    first_of (check 23 (ltb 15 h.number) ∷ check 23 (ltb 65535 h.counter) ∷ check 22 (ltb n (length_for h.counter)) ∷ [])

-- how many octets are written
unfoldable pub write_header : Header → ℕ → Answer ℕ
write_header h n = decided (write_refusal h n) (length_for h.counter)

-- 01's number and value for each case of the writer's answer
abbrev pub write_answer : Result ℕ Refusal → Answer ℕ
write_answer (Ok octets) = accepted octets
write_answer (Err refusal) = refused (number_of refusal)

-- the output after an answer: the header's octets at its front and the rest as it was; a refusal leaves all as it was
unfoldable pub output_after : Answer ℕ → Header → List ℕ → List ℕ
output_after (refused k) h out = out
output_after (accepted n) h out = header_octets h ++ drop n out

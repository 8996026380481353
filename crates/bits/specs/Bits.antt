-- Octets as a list of bits, most significant first, as the packed encoding rules (ISO/IEC 8825-2) count them. A field is a run of bits read as a
-- number; a bit place counts from 0. No place is wrong: a bit past the end reads as 0, and a write that does not fit changes nothing.
-- Assumes nothing.
use Rattle.std.specs.Prelude.{ℕ, zero, suc, ◌+◌, ◌*◌, ◌/◌, ◌%◌, ◌<◌, Bool, ◌&&◌, List, [], ◌∷◌, ◌++◌, length, get_or, take, drop, leb}
use Rattle.refusals.specs.Check.{pick}

-- each element is below m: a bit, an octet
pub record Below (m : ℕ) (l : List ℕ) : Type 0 where
  pub each : (i : ℕ) → get_or l i 0 < m

abbrev pub Bits : List ℕ → Type 0
Bits = Below 2

abbrev pub Octets : List ℕ → Type 0
Octets = Below 256

-- the w low bits of v, most significant first
unfoldable pub digits : ℕ → ℕ → List ℕ
digits zero v = []
digits (suc w) v = digits w (v / 2) ++ (v % 2 ∷ [])

-- the bits of a list of octets
unfoldable pub bits : List ℕ → List ℕ
bits [] = []
bits (o ∷ s) = digits 8 o ++ bits s

-- the first w bits of a list as a number; bits past its end are 0
unfoldable pub number : ℕ → List ℕ → ℕ
number zero l = 0
number (suc w) l = number w l * 2 + get_or l w 0

-- the w bits of s from place at, as a number
unfoldable pub field : List ℕ → ℕ → ℕ → ℕ
field s at w = number w (drop at (bits s))

-- the first n octets of a list of bits
unfoldable pub octets : ℕ → List ℕ → List ℕ
octets zero l = []
octets (suc n) l = number 8 l ∷ octets n (drop 8 l)

-- the octets of s with the bits l from place at on, and every other bit as it was
unfoldable pub put_bits : List ℕ → ℕ → List ℕ → List ℕ
put_bits s at l = octets (length s) (take at (bits s) ++ (l ++ drop (at + length l) (bits s)))

-- the widest field that is read or written in one call
abbrev pub widest : ℕ
widest = 48

-- what reading answers: a field that is wider than any reads as 0
unfoldable pub read_field : List ℕ → ℕ → ℕ → ℕ
read_field s at w = pick (leb w widest) (field s at w) 0

-- whether w bits from place at can be written to n octets
unfoldable pub field_fits : ℕ → ℕ → ℕ → Bool
field_fits n at w = leb w widest && leb (at + w) (8 * n)

-- the octets after writing the w low bits of v from place at on
unfoldable pub write_field : List ℕ → ℕ → ℕ → ℕ → List ℕ
write_field s at w v = pick (field_fits (length s) at w) (put_bits s at (digits w v)) s

-- Octet strings that start at any bit place of their octets: a start counts bits, a length counts octets.
-- Assumes nothing.
use Rattle.std.specs.Prelude.{ℕ, zero, suc, ◌+◌, ◌*◌, Bool, true, false, ◌&&◌, List, [], ◌∷◌, ◌++◌, length, take, drop, leb, ltb, eqb}
use Rattle.refusals.specs.Check.{pick}
use Rattle.bits.specs.Bits.{bits, field, put_bits}

-- a part of so many octets lies inside: start + 8 · length ≤ 8 · octets
unfoldable pub is_inside : (octets start n : ℕ) → Bool
is_inside octets start n = leb (start + 8 * n) (8 * octets)

-- the n octets of s from bit place start
unfoldable pub string_at : List ℕ → ℕ → ℕ → List ℕ
string_at s start zero = []
string_at s start (suc n) = field s start 8 ∷ string_at s (start + 8) n

-- whether two lists of octets are the same
unfoldable pub same_octets : List ℕ → List ℕ → Bool
same_octets [] [] = true
same_octets [] (b ∷ m) = false
same_octets (a ∷ l) [] = false
same_octets (a ∷ l) (b ∷ m) = eqb a b && same_octets l m

-- whether two parts are inside their octets and hold the same octets
unfoldable pub same_string : List ℕ → ℕ → List ℕ → ℕ → ℕ → Bool
same_string s start t first n = is_inside (length s) start n && is_inside (length t) first n && same_octets (string_at s start n) (string_at t first n)

-- the string is inside its octets, and so is the part of out, n octets from octet at on
unfoldable pub copy_fits : List ℕ → ℕ → ℕ → List ℕ → ℕ → Bool
copy_fits s start n out at = is_inside (length s) start n && leb (at + n) (length out)

-- out after the string is copied to octet at and those behind it
unfoldable pub copy_string : List ℕ → ℕ → ℕ → List ℕ → ℕ → List ℕ
copy_string s start n out at = pick (copy_fits s start n out at) (take at out ++ (string_at s start n ++ drop (at + n) out)) out

-- the string is inside its octets, and so is the part of out, n octets from bit place at on
unfoldable pub write_fits : List ℕ → ℕ → ℕ → List ℕ → ℕ → Bool
write_fits s start n out at = is_inside (length s) start n && is_inside (length out) at n

-- out after the string is written from bit place at on
unfoldable pub write_string : List ℕ → ℕ → ℕ → List ℕ → ℕ → List ℕ
write_string s start n out at = pick (write_fits s start n out at) (put_bits out at (bits (string_at s start n))) out

-- the first bit of each of the n octets from bit place start is 0
unfoldable pub each_first_bit_clear : List ℕ → ℕ → ℕ → Bool
each_first_bit_clear s start zero = true
each_first_bit_clear s start (suc n) = each_first_bit_clear s start n && ltb (field s (start + 8 * n) 8) 128

-- the string is inside its octets, and the first bit of each of its octets is 0
unfoldable pub first_bits_clear : List ℕ → ℕ → ℕ → Bool
first_bits_clear s start n = is_inside (length s) start n && each_first_bit_clear s start n

-- Computed cases of Bits.antt and Strings.antt: octets and their bits, the most significant first; fields and strings read and
-- written at bit places, some of them not on an octet's border, and just inside or outside their octets.
-- Assumes nothing.
use Rattle.std.specs.Prelude.{ℕ, ◌≡◌, Bool, true, false, List, [], ◌∷◌, length, replicate}
use Rattle.bits.specs.Bits.{Bits, Octets, digits, bits, number, octets, read_field, field_fits, write_field}
use Rattle.bits.specs.Strings.{is_inside, string_at, same_octets, same_string, copy_fits, copy_string, write_fits, write_string, first_bits_clear}

abbrev pub three : List ℕ
three = 0x12 ∷ 0x34 ∷ 0x56 ∷ []

abbrev pub two : List ℕ
two = 0x23 ∷ 0x45 ∷ []

abbrev pub ones : List ℕ
ones = 0xFF ∷ 0xFF ∷ 0xFF ∷ []

abbrev pub nines : List ℕ
nines = 9 ∷ 9 ∷ 9 ∷ 9 ∷ []

-- whether it fits, and the octets afterwards
pub record Written : Type 0 where
  pub fits : Bool
  pub octets : List ℕ

abbrev pub leaves : List ℕ → Written
leaves s = record { fits = true; octets = s }

abbrev pub keeps : List ℕ → Written
keeps s = record { fits = false; octets = s }

-- the field v of w bits is written to s at a place
abbrev pub put_field : List ℕ → (at w v : ℕ) → Written
put_field s at w v = record { fits = field_fits (length s) at w; octets = write_field s at w v }

-- the string of n octets at a bit place of `three` is copied to an octet of `nines`, and is written to a bit place of `ones`
abbrev pub copied : (start n at : ℕ) → Written
copied start n at = record { fits = copy_fits three start n nines at; octets = copy_string three start n nines at }

abbrev pub put : (start n at : ℕ) → Written
put start n at = record { fits = write_fits three start n ones at; octets = write_string three start n ones at }

-- ---- what is proved

pub record BitCasesHold : Type 0 where
  -- octets are below 256, bits below 2, the last of a list too
  pub are_octets : Octets (0 ∷ 255 ∷ [])
  pub not_octets : Octets (0 ∷ 256 ∷ []) → ⊥
  pub all_bits : Bits (0 ∷ 1 ∷ [])
  pub not_bits : Bits (0 ∷ 2 ∷ []) → ⊥
  -- the low bits of 26, which is 11010; the bits of two octets, and octets of bits
  pub low_bits : digits 4 26 ∷ digits 6 26 ∷ digits 0 26 ∷ [] ≡ (1 ∷ 0 ∷ 1 ∷ 0 ∷ []) ∷ (0 ∷ 1 ∷ 1 ∷ 0 ∷ 1 ∷ 0 ∷ []) ∷ [] ∷ []
  pub bits_of : bits (0x91 ∷ 0x0E ∷ []) ≡ 1 ∷ 0 ∷ 0 ∷ 1 ∷ 0 ∷ 0 ∷ 0 ∷ 1 ∷ 0 ∷ 0 ∷ 0 ∷ 0 ∷ 1 ∷ 1 ∷ 1 ∷ 0 ∷ []
  pub octets_given : octets 2 (1 ∷ 0 ∷ 0 ∷ 1 ∷ 0 ∷ 0 ∷ 0 ∷ 1 ∷ 0 ∷ 0 ∷ 0 ∷ 0 ∷ 1 ∷ 1 ∷ 1 ∷ 0 ∷ 1 ∷ []) ≡ 0x91 ∷ 0x0E ∷ []
  -- the first bits as a number: of 1011 three, four, and six with two past the end
  pub numbers :
      number 3 (1 ∷ 0 ∷ 1 ∷ 1 ∷ []) ∷ number 4 (1 ∷ 0 ∷ 1 ∷ 1 ∷ []) ∷ number 6 (1 ∷ 0 ∷ 1 ∷ 1 ∷ []) ∷ []
      ≡ 5 ∷ 11 ∷ 44 ∷ []
  -- inside, over the end, past it; no bits, 48 bits and 49
  pub fields :
      read_field three 4 8 ∷ read_field three 0 24 ∷ read_field three 20 8 ∷ read_field three 24 8
      ∷ read_field three 3 0 ∷ read_field three 0 48 ∷ read_field three 0 49 ∷ []
      ≡ 0x23 ∷ 0x123456 ∷ 0x60 ∷ 0 ∷ 0 ∷ 0x123456000000 ∷ 0 ∷ []
  -- the low bits of the value go to the place, and all other bits stay; over the end nothing is written, nor are 49 bits
  pub fields_written :
      put_field ones 4 8 0x23 ∷ put_field ones 4 8 0x723 ∷ put_field ones 16 8 0x23 ∷ put_field ones 17 8 0x23 ∷ put_field ones 24 0 0
      ∷ put_field (replicate 7 0) 0 48 0x123456789ABC ∷ put_field (replicate 7 0) 0 49 1 ∷ []
      ≡ leaves (0xF2 ∷ 0x3F ∷ 0xFF ∷ []) ∷ leaves (0xF2 ∷ 0x3F ∷ 0xFF ∷ []) ∷ leaves (0xFF ∷ 0xFF ∷ 0x23 ∷ []) ∷ keeps ones ∷ leaves ones
      ∷ leaves (0x12 ∷ 0x34 ∷ 0x56 ∷ 0x78 ∷ 0x9A ∷ 0xBC ∷ 0 ∷ []) ∷ keeps (replicate 7 0) ∷ []
  -- the last octet that lies inside ends with the last bit
  pub inside :
      is_inside 3 8 2 ∷ is_inside 3 9 2 ∷ is_inside 3 24 0 ∷ is_inside 3 25 0 ∷ is_inside 0 0 0 ∷ []
      ≡ true ∷ false ∷ true ∷ false ∷ true ∷ []
  pub strings : string_at three 4 2 ∷ string_at three 8 2 ∷ string_at three 8 0 ∷ [] ≡ two ∷ (0x34 ∷ 0x56 ∷ []) ∷ [] ∷ []
  -- the same octets, and as many
  pub same :
      same_octets [] [] ∷ same_octets two two ∷ same_octets two (0x23 ∷ 0x46 ∷ []) ∷ same_octets two (0x24 ∷ 0x45 ∷ [])
      ∷ same_octets two (0x23 ∷ []) ∷ same_octets (0x23 ∷ []) two ∷ []
      ≡ true ∷ true ∷ false ∷ false ∷ false ∷ false ∷ []
  -- from bit 4 on `three` has the octets of `two`, from bit 8 on not; 45 60 from bit 12 on is past its end
  pub same_strings :
      same_string three 4 two 0 2 ∷ same_string two 0 three 4 2 ∷ same_string three 8 two 0 2
      ∷ same_string three 12 (0x45 ∷ 0x60 ∷ []) 0 2 ∷ same_string (0x45 ∷ 0x60 ∷ []) 0 three 12 2 ∷ []
      ≡ true ∷ true ∷ false ∷ false ∷ false ∷ []
  -- to the octets at the place, and all others stay; nothing where the place or the string is not inside
  pub copies :
      copied 4 2 1 ∷ copied 4 2 2 ∷ copied 4 2 3 ∷ copied 9 2 0 ∷ []
      ≡ leaves (9 ∷ 0x23 ∷ 0x45 ∷ 9 ∷ []) ∷ leaves (9 ∷ 9 ∷ 0x23 ∷ 0x45 ∷ []) ∷ keeps nines ∷ keeps nines ∷ []
  pub strings_written :
      put 8 2 4 ∷ put 4 2 8 ∷ put 4 2 9 ∷ put 9 2 0 ∷ []
      ≡ leaves (0xF3 ∷ 0x45 ∷ 0x6F ∷ []) ∷ leaves (0xFF ∷ 0x23 ∷ 0x45 ∷ []) ∷ keeps ones ∷ keeps ones ∷ []
  -- the first bit of each octet: of 7F, of 7F 80 and from bit 1 on; past the end there is none
  pub clear :
      first_bits_clear (0x7F ∷ 0x80 ∷ []) 0 1 ∷ first_bits_clear (0x7F ∷ 0x80 ∷ []) 0 2 ∷ first_bits_clear (0x7F ∷ 0x80 ∷ []) 1 1
      ∷ first_bits_clear (0x80 ∷ 0x00 ∷ []) 1 1 ∷ first_bits_clear (0x7F ∷ []) 0 2 ∷ first_bits_clear [] 0 0 ∷ []
      ≡ true ∷ false ∷ false ∷ true ∷ false ∷ true ∷ []

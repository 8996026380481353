-- Cases of writing (Writing.antt): what values are written as, each border of their ranges, and the order 23, 21, 22. Taken from 01 ("Messages" and its
-- table of refusals), not from the definitions.
-- Assumes nothing.
use Rattle.std.specs.Prelude.{ℕ, suc, ◌^◌, ◌≡◌, true, false, List, [], ◌∷◌, ◌++◌, map, length, replicate, eqb}
use Rattle.refusals.specs.Check.{pick}
use Rattle.bits.specs.Bits.{bits}
use Rattle.apdu_format.specs.Limits.{longest_string}
use Rattle.apdu_format.specs.Reading.{Value, fields, string}
use Rattle.apdu_format.specs.Writing.{Pen, written, encoded_octets, write_refusal}
use Rattle.apdu_format.specs.Pictures.{picture, repeated, leading, number, whole_number, octet_string, ids_from, application, equipment}
use Rattle.apdu_format.specs.ReadingCases.{longest, longest_values}

-- values that are written to an output of so many octets, or as they stand
pub data Given : Type 0 where
  writing : List Value → ℕ → Given
  components : List Value → Given

pub data Result : Type 0 where
  refusal : ℕ → Result
  octets : List ℕ → Result
  pen : Pen → Result

unfoldable pub result : Given → Result
result (writing vs n) = pick (eqb (write_refusal vs n) 0) (octets (encoded_octets vs)) (refusal (write_refusal vs n))
result (components vs) = pen (written vs)

pub record Case : Type 0 where
  pub given : Given
  pub gives : Result

-- the values are written as the octets s, where there is just room for them
abbrev pub writes : List Value → List ℕ → Case
writes vs s = record { given = writing vs (length s); gives = octets s }

-- the values are refused with number k, for an output of n octets
abbrev pub refuses : List Value → ℕ → ℕ → Case
refuses vs n k = record { given = writing vs n; gives = refusal k }

-- the values are refused with 23, whatever the output
abbrev pub out_of_range : List Value → Case
out_of_range vs = refuses vs 0 23

-- the values leave this pen
abbrev pub leaves : List Value → Pen → Case
leaves vs p = record { given = components vs; gives = pen p }

-- ---- the messages that carry these values

-- release: leading part and eid, before its type
abbrev release : List Value
release = leading 2 (0 ∷ 0 ∷ 0 ∷ 0 ∷ []) ++ number 0

-- release with credentials, before their octet string
abbrev credited : List Value
credited = leading 2 (1 ∷ 0 ∷ 0 ∷ 0 ∷ []) ++ number 0 ++ number 0

-- release with a parameter, before its container
abbrev released : List Value
released = leading 2 (0 ∷ 1 ∷ 0 ∷ 0 ∷ []) ++ number 0 ++ number 0

-- a get request, before its id list; a set request, before its attribute list; a VST, before its applications
abbrev getting : List Value
getting = leading 6 (0 ∷ 0 ∷ 1 ∷ 0 ∷ []) ++ number 0x11

abbrev setting : List Value
setting = leading 4 (0 ∷ 0 ∷ 0 ∷ 0 ∷ []) ++ number 0x11

abbrev answered : List Value
answered = leading 9 (0 ∷ []) ++ number 0

-- a BST with this second list's bit, manufacturer, individual and time
abbrev bst : ℕ → ℕ → ℕ → ℕ → List Value
bst second manufacturer individual time = leading 8 (second ∷ manufacturer ∷ individual ∷ []) ++ whole_number time ++ number 0 ++ number 0 ++ ids_from 0 0

-- a VST with this fill, class, maker and status
abbrev vst : ℕ → ℕ → ℕ → ℕ → List Value
vst fill class maker status = leading 9 (fill ∷ []) ++ number 0 ++ number 0 ++ equipment 1 class ++ whole_number maker ++ whole_number status

abbrev rows : ℕ → List Value
rows n = repeated n (number 0x16 ++ number 7 ++ number 0x17)

-- ---- the cases

unfoldable pub writing_cases : List Case
writing_cases =
    -- values in order, most significant bit first: a set request with all its parts, a get request, a VST with two entries, a BST
    writes
    (leading 4 (1 ∷ 1 ∷ 0 ∷ 1 ∷ []) ++ number 0x11 ++ octet_string 0 (picture 2 0xA5_01) ++ number 1 ++ number 0x16 ++ number 7 ++ number 0x17 ++ number 0x14)
    (picture 10 0x4D_11_02_A5_01_01_16_07_17_14)
    ∷ writes (getting ++ ids_from 0 2 ++ number 0x18 ++ number 0x19) (picture 5 0x62_11_02_18_19)
    ∷ writes (answered ++ number 2 ++ (application 1 0 2 ++ number 0x51) ++ (application 0 1 3 ++ number 7 ++ number 0x52) ++ equipment 0 0x41 ++ whole_number 0x42)
    (picture 12 0x90_00_02_82_51_43_07_52_00_41_00_42)
    ∷ writes (bst 0 43_981 19_088_743 1_600_000_000) (picture 13 0x85_5E_69_23_45_67_5F_5E_10_00_00_00_00)
    -- a string's place is not looked at
    ∷ writes (credited ++ octet_string 4 (picture 2 0xA1_A2)) (picture 6 0x28_00_00_02_A1_A2)
    ∷ writes (credited ++ octet_string 600 (picture 2 0xA1_A2)) (picture 6 0x28_00_00_02_A1_A2)
    -- each range, its greatest number and one more: a number 0..127; presence bits; fill of 1, 2 and 4 bits; a beacon; the time; class, maker, status;
    -- a string's length; an AID
    ∷ writes (release ++ number 127) (picture 3 0x20_00_7F)
    ∷ out_of_range (release ++ number 128)
    ∷ out_of_range (leading 2 (0 ∷ 0 ∷ 0 ∷ 2 ∷ []) ++ number 0 ++ number 0)
    ∷ out_of_range (leading 2 (2 ∷ 0 ∷ 0 ∷ 0 ∷ []) ++ number 0 ++ number 0)
    ∷ writes (leading 1 (0 ∷ 0 ∷ 0 ∷ 1 ∷ []) ++ number 0) (picture 2 0x11_00)
    ∷ out_of_range (leading 1 (0 ∷ 0 ∷ 0 ∷ 2 ∷ []) ++ number 0)
    ∷ writes (leading 3 (0 ∷ 0 ∷ 3 ∷ []) ++ number 0) (picture 2 0x33_00)
    ∷ out_of_range (leading 3 (0 ∷ 0 ∷ 4 ∷ []) ++ number 0)
    ∷ writes (vst 15 32_767 65_535 65_535) (picture 9 0x9F_00_00_FF_FF_FF_FF_FF_FF)
    ∷ out_of_range (vst 16 32_767 65_535 65_535)
    ∷ out_of_range (vst 15 32_768 65_535 65_535)
    ∷ out_of_range (vst 15 32_767 65_536 65_535)
    ∷ out_of_range (vst 15 32_767 65_535 65_536)
    ∷ writes (bst 0 65_535 134_217_727 4_294_967_295) (picture 13 0x87_FF_FF_FF_FF_FF_FF_FF_FF_FF_00_00_00)
    ∷ out_of_range (bst 0 65_536 134_217_727 4_294_967_295)
    ∷ out_of_range (bst 0 65_535 134_217_728 4_294_967_295)
    ∷ out_of_range (bst 0 65_535 134_217_727 4_294_967_296)
    ∷ writes (credited ++ octet_string 0 (replicate longest_string 0xA1)) (picture 4 0x28_00_00_7F ++ replicate 127 0xA1)
    ∷ out_of_range (credited ++ octet_string 0 (replicate (suc longest_string) 0xA1))
    ∷ writes (answered ++ number 1 ++ application 0 0 31 ++ equipment 0 0 ++ whole_number 0) (picture 8 0x90_00_01_1F_00_00_00_00)
    ∷ out_of_range (answered ++ number 1 ++ application 0 0 32 ++ equipment 0 0 ++ whole_number 0)
    -- what reading refuses is out of range: choice 10; an extension bit; a kind; a count of 17; the row 33; depth 5
    ∷ out_of_range (leading 10 (0 ∷ []))
    ∷ out_of_range (release ++ fields (1 ∷ 0 ∷ []) ∷ [])
    ∷ out_of_range (credited ++ fields (1 ∷ []) ∷ fields (0 ∷ []) ∷ string 0 [] ∷ [])
    ∷ out_of_range (answered ++ number 1 ++ fields (0 ∷ 0 ∷ 1 ∷ 2 ∷ []) ∷ [] ++ equipment 0 0 ++ whole_number 0)
    ∷ out_of_range (released ++ number 3)
    ∷ writes (getting ++ ids_from 0 16 ++ repeated 16 (number 0x18)) (picture 3 0x62_11_10 ++ replicate 16 0x18)
    ∷ out_of_range (getting ++ ids_from 0 17 ++ repeated 17 (number 0x18))
    ∷ writes (setting ++ number 16 ++ number 0x16 ++ number 9 ++ number 16 ++ rows 31) (picture 6 0x40_11_10_16_09_10 ++ repeated 31 (picture 3 0x16_07_17))
    ∷ out_of_range (setting ++ number 16 ++ number 0x16 ++ number 9 ++ number 16 ++ number 0x16 ++ number 9 ++ number 1 ++ rows 31)
    ∷ out_of_range
    (released ++ number 9 ++ number 1 ++ number 0 ++ number 9 ++ number 1 ++ number 0 ++ number 9 ++ number 1 ++ number 0 ++ number 9 ++ number 1 ++ number 0 ++ number 7 ++ number 0)
    -- a value of another form: a field too few, one too many; a string for numbers, numbers for a string
    ∷ out_of_range (release ++ fields (0 ∷ []) ∷ [])
    ∷ out_of_range (release ++ fields (0 ∷ 0 ∷ 0 ∷ []) ∷ [])
    ∷ out_of_range (release ++ fields [] ∷ [])
    ∷ out_of_range (release ++ string 0 (replicate 8 0) ∷ [])
    ∷ out_of_range (getting ++ fields (0 ∷ 0 ∷ []) ∷ fields [] ∷ [])
    -- a string's bits: as many as its length says, each 0 or 1
    ∷ out_of_range (credited ++ fields (0 ∷ []) ∷ fields (1 ∷ []) ∷ string 0 (replicate 7 0) ∷ [])
    ∷ out_of_range (credited ++ fields (0 ∷ []) ∷ fields (1 ∷ []) ∷ string 0 (replicate 9 0) ∷ [])
    ∷ out_of_range (credited ++ fields (0 ∷ []) ∷ fields (1 ∷ []) ∷ string 0 (2 ∷ replicate 7 0) ∷ [])
    ∷ out_of_range (credited ++ fields (0 ∷ []) ∷ fields (1 ∷ []) ∷ string 0 (replicate 7 0 ++ (2 ∷ [])) ∷ [])
    ∷ out_of_range (getting ++ fields (0 ∷ 0 ∷ []) ∷ string 0 (0 ∷ []) ∷ [])
    -- no value at all, one too few, one too many
    ∷ out_of_range []
    ∷ out_of_range release
    ∷ out_of_range (release ++ number 0 ++ number 0)
    ∷ out_of_range (release ++ number 0 ++ string 0 [] ∷ [])
    -- 22: the output is too short; a longer one is no matter
    ∷ refuses (release ++ number 0) 2 22
    ∷ refuses (release ++ number 0) 0 22
    ∷ record { given = writing (release ++ number 0) 512; gives = octets (picture 3 0x20_00_00) }
    -- 21: a message of 513 octets; one of 512 is written
    ∷ writes (longest_values 116) longest
    ∷ refuses (longest_values 117) 600 21
    -- 23 goes before 21 and 22, 21 before 22
    ∷ refuses (release ++ number 128) 2 23
    ∷ refuses (longest_values 117 ++ number 0) 600 23
    ∷ refuses (longest_values 117) 512 21
    ∷ refuses (longest_values 116) 511 22
    -- the pen behind a message, behind one with a value left over, and behind a value out of range, where nothing more is written
    ∷ leaves (setting ++ number 1 ++ rows 1) (record { left = []; room = 31; ok = true; out = bits (picture 6 0x40_11_01_16_07_17) })
    ∷ leaves (release ++ number 0 ++ number 5) (record { left = number 5; room = 32; ok = true; out = bits (picture 3 0x20_00_00) })
    ∷ leaves (leading 2 (0 ∷ 0 ∷ 0 ∷ 0 ∷ []) ++ number 128 ++ number 0) (record { left = []; room = 0; ok = false; out = [] })
    ∷ []

-- every case gives what it says
unfoldable pub WritingCasesHold : Type 0
WritingCasesHold = map (λ (c : Case). result c.given) writing_cases ≡ map (λ (c : Case). c.gives) writing_cases

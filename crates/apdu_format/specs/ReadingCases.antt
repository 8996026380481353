-- Cases of reading (Reading.antt): 01's own messages and those of 003's Annex D; the length first, then from the left to the first fault; what each
-- component holds and where its strings stand; where a refusal stands; and octets left behind. Taken from the papers, not from the definitions.
-- Assumes nothing.
use Rattle.std.specs.Prelude.{ℕ, List, [], ◌∷◌, ◌++◌, replicate}
use Rattle.apdu_format.specs.Reading.{Value, fields, string}
use Rattle.apdu_format.specs.Pictures.{picture, repeated, leading, number, whole_number, octet_string, ids_from, application, equipment, Case, reads, refuses, leaves, stops, Hold}

-- the get response of 512 octets: four rows with strings of 127, 127, 127 and 116 octets
abbrev pub longest : List ℕ
longest = picture 3 0x74_11_04 ++ repeated 3 (picture 3 0x16_02_7F ++ replicate 127 0xA1) ++ picture 3 0x16_02_74 ++ replicate 116 0xA1

-- what it holds, where the last string has n octets
abbrev pub longest_values : ℕ → List Value
longest_values n =
    leading 7 (0 ∷ 1 ∷ 0 ∷ 0 ∷ []) ++ number 0x11 ++ number 4 ++ (number 0x16 ++ number 2 ++ octet_string 6 (replicate 127 0xA1))
    ++ (number 0x16 ++ number 2 ++ octet_string 136 (replicate 127 0xA1)) ++ (number 0x16 ++ number 2 ++ octet_string 266 (replicate 127 0xA1))
    ++ (number 0x16 ++ number 2 ++ octet_string 396 (replicate n 0xA1))

unfoldable pub reading_cases : List Case
reading_cases =
    -- 01: ECHO request and response (003, 9.6 and 9.7), release, VST
    reads (picture 5 0x05_00_0F_02_00) (leading 0 (0 ∷ 1 ∷ 0 ∷ 1 ∷ []) ++ number 0 ++ number 15 ++ number 2 ++ octet_string 5 [])
    ∷ reads (picture 4 0x14_00_02_00) (leading 1 (0 ∷ 1 ∷ 0 ∷ 0 ∷ []) ++ number 0 ++ number 2 ++ octet_string 4 [])
    ∷ reads (picture 3 0x20_00_00) (leading 2 (0 ∷ 0 ∷ 0 ∷ 0 ∷ []) ++ number 0 ++ number 0)
    ∷ reads (picture 19 0x90_00_01_C1_01_02_06_11_22_33_44_55_66_80_01_00_05_80_00)
    (leading 9 (0 ∷ []) ++ number 0 ++ number 1 ++ (application 1 1 1 ++ number 1 ++ number 2 ++ octet_string 7 (picture 6 0x11_22_33_44_55_66))
    ++ equipment 1 1 ++ whole_number 5 ++ whole_number 0x80_00)
    -- 003, 9.8: GET_SECURE request with credentials of nine octets; 9.2: BST with one application
    ∷ reads (picture 17 0x0D_01_02_09_01_02_03_04_05_06_07_08_09_02_02_01_63)
    (leading 0 (1 ∷ 1 ∷ 0 ∷ 1 ∷ []) ++ number 1 ++ number 2 ++ octet_string 4 (picture 9 0x01_02_03_04_05_06_07_08_09) ++ number 2 ++ octet_string 15 (picture 2 0x01_63))
    ∷ reads (picture 14 0x80_00_31_23_45_67_5F_5E_10_00_00_01_01_00)
    (leading 8 (0 ∷ 6 ∷ 19_088_743 ∷ []) ++ whole_number 1_600_000_000 ++ number 0 ++ number 1 ++ application 0 0 1 ++ ids_from 14 0)
    -- a string's bits, most significant first, where they stand
    ∷ reads (picture 6 0x28_00_00_02_A5_01)
    (leading 2 (1 ∷ 0 ∷ 0 ∷ 0 ∷ []) ++ number 0 ++ number 0 ++ fields (0 ∷ []) ∷ fields (2 ∷ [])
    ∷ string 32 (1 ∷ 0 ∷ 1 ∷ 0 ∷ 0 ∷ 1 ∷ 0 ∷ 1 ∷ 0 ∷ 0 ∷ 0 ∷ 0 ∷ 0 ∷ 0 ∷ 0 ∷ 1 ∷ []) ∷ [])
    -- 13, at the input's length, for a component that is not all there: a leading part (a BST's too), a number, a time, a string's length, its octets, a
    -- count of ids, an id, a count of rows, a row's id, a container kind, a count of applications, an entry, a class, a maker, a status
    ∷ refuses [] 13 0
    ∷ refuses (picture 2 0x80_00) 13 2
    ∷ refuses (picture 5 0x80_00_00_00_00) 13 5
    ∷ refuses (picture 1 0x20) 13 1
    ∷ refuses (picture 2 0x20_00) 13 2
    ∷ refuses (picture 9 0x80_00_00_00_00_00_00_00_00) 13 9
    ∷ refuses (picture 3 0x28_11_12) 13 3
    ∷ refuses (picture 4 0x28_11_12_02) 13 4
    ∷ refuses (picture 5 0x28_11_12_02_A1) 13 5
    ∷ refuses (picture 7 0x05_00_0F_02_03_A1_A2) 13 7
    ∷ refuses (picture 2 0x62_11) 13 2
    ∷ refuses (picture 4 0x62_11_02_18) 13 4
    ∷ refuses (picture 2 0x40_11) 13 2
    ∷ refuses (picture 3 0x40_11_01) 13 3
    ∷ refuses (picture 4 0x40_11_01_16) 13 4
    ∷ refuses (picture 2 0x90_31) 13 2
    ∷ refuses (picture 3 0x90_31_01) 13 3
    ∷ refuses (picture 4 0x90_31_00_80) 13 4
    ∷ refuses (picture 6 0x90_31_00_80_41_00) 13 6
    ∷ refuses (picture 8 0x90_31_00_80_41_00_42_00) 13 8
    -- 13 goes before 19 and 17
    ∷ refuses (picture 15 0x24_11_12_09_01_21_09_01_22_09_01_23_09_01_24) 13 15
    ∷ refuses (picture 3 0x24_11_12) 13 3
    -- 14, where the octets left begin; a fault within goes before it
    ∷ refuses (picture 4 0x20_00_00_00) 14 3
    ∷ refuses (picture 6 0x05_00_0F_02_00_00) 14 5
    ∷ refuses (picture 20 0x90_00_01_C1_01_02_06_11_22_33_44_55_66_80_01_00_05_80_00_00) 14 19
    ∷ refuses (picture 4 0x20_00_80_00) 16 2
    -- from the left, the first fault decides: in one component, in what it brings, in what follows
    ∷ refuses (picture 3 0x20_80_80) 16 1
    ∷ refuses (picture 3 0xA0_80_80) 15 0
    ∷ refuses (picture 7 0x40_11_02_16_03_80_80) 17 4
    ∷ refuses (picture 4 0x62_11_11_80) 18 2
    -- 21 goes first, at 512; 512 octets are read
    ∷ refuses (replicate 513 0xFF) 21 512
    ∷ refuses (picture 3 0x20_00_00 ++ replicate 510 0x00) 21 512
    ∷ refuses (picture 3 0x20_00_00 ++ replicate 509 0x00) 14 3
    ∷ refuses (replicate 512 0xFF) 15 0
    ∷ reads longest (longest_values 116)
    -- the whole state behind a message and behind a fault, where nothing more is read
    ∷ leaves (picture 6 0x40_11_01_16_07_17)
    (record { at = 48; begun = 40; room = 31; fault = 0; position = 0; log = leading 4 (0 ∷ 0 ∷ 0 ∷ 0 ∷ []) ++ number 0x11 ++ number 1 ++ number 0x16 ++ number 7 ++ number 0x17 })
    ∷ leaves (picture 7 0x40_11_02_16_03_80_80) (record { at = 32; begun = 24; room = 30; fault = 17; position = 4; log = [] })
    ∷ leaves (picture 4 0x20_00_80_00) (record { at = 16; begun = 8; room = 32; fault = 16; position = 2; log = [] })
    ∷ []

unfoldable pub ReadingCasesHold : Type 0
ReadingCasesHold = Hold reading_cases

-- Cases of the rules for one component (Rules.antt, with Limits.antt and the container kinds of Component.antt): which numbers have an extension bit,
-- which choices, kinds, counts and depths are refused, in which order, what each component brings with it, where it begins and how many attribute rows
-- it announces. Taken from 01 ("Messages", rows 15 to 19 of its table of refusals) and Annex A, not from the definitions.
-- Assumes nothing.
use Rattle.std.specs.Prelude.{ℕ, List, [], ◌∷◌, ◌++◌, replicate}
use Rattle.apdu_format.specs.Reading.{Value}
use Rattle.apdu_format.specs.Pictures.{picture, repeated, leading, number, whole_number, octet_string, ids_from, application, equipment, Case, reads, refuses, stops, Hold}

-- ---- the messages that carry these components

-- release with a parameter: 24 11 12, then a container
abbrev released : List Value
released = leading 2 (0 ∷ 1 ∷ 0 ∷ 0 ∷ []) ++ number 0x11 ++ number 0x12

-- release with credentials: 28 11 12, then an octet string
abbrev credited : List Value
credited = leading 2 (1 ∷ 0 ∷ 0 ∷ 0 ∷ []) ++ number 0x11 ++ number 0x12

-- a set request: 40 11, then an attribute list
abbrev setting : List Value
setting = leading 4 (0 ∷ 0 ∷ 0 ∷ 0 ∷ []) ++ number 0x11

-- a VST: 90 31, then applications and a configuration
abbrev answered : List Value
answered = leading 9 (0 ∷ []) ++ number 0x31

-- 00 41 00 42, a configuration without status
abbrev configured : List Value
configured = equipment 0 0x41 ++ whole_number 0x42

-- 16 07 17, an attribute row whose container holds an eid; so many of them, and their octets
abbrev rows : ℕ → List Value
rows n = repeated n (number 0x16 ++ number 7 ++ number 0x17)

abbrev row_octets : ℕ → List ℕ
row_octets n = repeated n (picture 3 0x16_07_17)

-- ---- the cases

unfoldable pub rule_cases : List Case
rule_cases =
    -- 15: choices 10 to 15 (0 to 9 are read, TableCases.antt)
    refuses (picture 1 0xA0) 15 0
    ∷ refuses (picture 1 0xB0) 15 0
    ∷ refuses (picture 1 0xC0) 15 0
    ∷ refuses (picture 1 0xD0) 15 0
    ∷ refuses (picture 1 0xE0) 15 0
    ∷ refuses (picture 1 0xFF) 15 0
    -- 16: the extension bit of a number (eid, event type, attribute id, profile), a string's length, a count of ids, rows and applications, a container
    -- kind, and an application entry
    ∷ refuses (picture 3 0x20_80_00) 16 1
    ∷ refuses (picture 3 0x20_00_FF) 16 2
    ∷ refuses (picture 4 0x62_11_01_80) 16 3
    ∷ refuses (picture 4 0x40_11_01_80) 16 3
    ∷ refuses (picture 2 0x90_80) 16 1
    ∷ refuses (picture 4 0x28_11_12_80) 16 3
    ∷ refuses (picture 5 0x24_11_12_02_80) 16 4
    ∷ refuses (picture 3 0x62_11_80) 16 2
    ∷ refuses (picture 3 0x40_11_80) 16 2
    ∷ refuses (picture 3 0x90_31_80) 16 2
    ∷ refuses (picture 4 0x24_11_12_82) 16 3
    ∷ refuses (picture 4 0x90_31_01_22) 16 3
    ∷ refuses (picture 4 0x90_31_01_E2) 16 3
    -- no extension bit: the time, a configuration's class, maker and status, a string's octets; and 1 is no extension bit
    ∷ reads (picture 13 0x80_00_00_00_00_00_FF_FF_FF_FF_00_00_00) (leading 8 (0 ∷ 0 ∷ 0 ∷ []) ++ whole_number 4_294_967_295 ++ number 0 ++ number 0 ++ ids_from 13 0)
    ∷ reads (picture 13 0x80_00_00_00_00_00_00_00_00_01_01_00_00) (leading 8 (0 ∷ 0 ∷ 0 ∷ []) ++ whole_number 1 ++ number 1 ++ number 0 ++ ids_from 13 0)
    ∷ reads (picture 7 0x90_31_00_7F_FF_FF_FF) (answered ++ number 0 ++ equipment 0 32_767 ++ whole_number 65_535)
    ∷ reads (picture 9 0x90_31_00_FF_FF_FF_FF_FF_FF) (answered ++ number 0 ++ equipment 1 32_767 ++ whole_number 65_535 ++ whole_number 65_535)
    ∷ reads (picture 9 0x90_31_00_80_01_00_01_00_01) (answered ++ number 0 ++ equipment 1 1 ++ whole_number 1 ++ whole_number 1)
    ∷ reads (picture 6 0x28_11_12_02_FF_80) (credited ++ octet_string 4 (picture 2 0xFF_80))
    -- an octet string: 0 to 127 octets; its length is no count
    ∷ reads (picture 4 0x28_11_12_00) (credited ++ octet_string 4 [])
    ∷ reads (picture 5 0x28_11_12_01_A1) (credited ++ octet_string 4 (picture 1 0xA1))
    ∷ reads (picture 4 0x28_11_12_11 ++ replicate 17 0xA1) (credited ++ octet_string 4 (replicate 17 0xA1))
    ∷ reads (picture 4 0x28_11_12_7F ++ replicate 127 0xA1) (credited ++ octet_string 4 (replicate 127 0xA1))
    -- the kinds of containers: octet string 2, Dsrc-EID 7, attribute id list 8, attribute list 9
    ∷ reads (picture 7 0x24_11_12_02_02_B1_B2) (released ++ number 2 ++ octet_string 5 (picture 2 0xB1_B2))
    ∷ reads (picture 5 0x24_11_12_07_13) (released ++ number 7 ++ number 0x13)
    ∷ reads (picture 7 0x24_11_12_08_02_18_19) (released ++ number 8 ++ ids_from 5 2 ++ number 0x18 ++ number 0x19)
    ∷ reads (picture 8 0x24_11_12_09_01_16_07_17) (released ++ number 9 ++ number 1 ++ rows 1)
    -- 17: any other kind
    ∷ refuses (picture 4 0x24_11_12_00) 17 3
    ∷ refuses (picture 4 0x24_11_12_01) 17 3
    ∷ refuses (picture 4 0x24_11_12_03) 17 3
    ∷ refuses (picture 4 0x24_11_12_04) 17 3
    ∷ refuses (picture 4 0x24_11_12_05) 17 3
    ∷ refuses (picture 4 0x24_11_12_06) 17 3
    ∷ refuses (picture 4 0x24_11_12_0A) 17 3
    ∷ refuses (picture 4 0x24_11_12_0B) 17 3
    ∷ refuses (picture 4 0x24_11_12_10) 17 3
    ∷ refuses (picture 4 0x24_11_12_7F) 17 3
    -- 18: a count of ids, profiles, rows or applications above 16
    ∷ reads (picture 3 0x62_11_10 ++ replicate 16 0x18) (leading 6 (0 ∷ 0 ∷ 1 ∷ 0 ∷ []) ++ number 0x11 ++ ids_from 3 16 ++ repeated 16 (number 0x18))
    ∷ refuses (picture 3 0x62_11_11) 18 2
    ∷ refuses (picture 13 0x80_00_00_00_00_00_00_00_00_00_00_00_11) 18 12
    ∷ reads (picture 3 0x40_11_10 ++ row_octets 16) (setting ++ number 16 ++ rows 16)
    ∷ refuses (picture 3 0x40_11_11) 18 2
    ∷ reads (picture 3 0x90_31_10 ++ replicate 16 0x02 ++ picture 4 0x00_41_00_42) (answered ++ number 16 ++ repeated 16 (application 0 0 2) ++ configured)
    ∷ refuses (picture 3 0x90_31_11) 18 2
    -- 16 goes before 18
    ∷ refuses (picture 3 0x62_11_91) 16 2
    ∷ refuses (picture 3 0x40_11_91) 16 2
    ∷ refuses (picture 3 0x90_31_91) 16 2
    -- 18: attribute rows above 32 in all, counted where they are announced. A list of 16, in its first row one of 16: 32 are read, and one more is refused
    -- at its count, though only two rows were reached
    ∷ reads (picture 6 0x40_11_10_16_09_10 ++ row_octets 31) (setting ++ number 16 ++ number 0x16 ++ number 9 ++ number 16 ++ rows 31)
    ∷ refuses (picture 9 0x40_11_10_16_09_10_16_09_01) 18 8
    ∷ refuses (picture 9 0x40_11_10_16_09_10_16_09_00) 13 9
    -- beside each other: 16, then 15 in the first row, 1 in the second, 1 in the third
    ∷ refuses (picture 6 0x40_11_10_16_09_0F ++ row_octets 15 ++ picture 6 0x16_09_01_16_07_17 ++ picture 3 0x16_09_01) 18 59
    ∷ refuses (picture 6 0x40_11_10_16_09_0F ++ row_octets 15 ++ picture 6 0x16_09_01_16_07_17 ++ picture 3 0x16_09_00) 13 60
    -- over the applications of a VST, and over both lists of a BST
    ∷ refuses (picture 3 0x90_31_03 ++ (picture 3 0x42_09_10 ++ row_octets 16) ++ (picture 3 0x42_09_10 ++ row_octets 16) ++ picture 3 0x42_09_01) 18 107
    ∷ refuses
    (picture 12 0x88_00_00_00_00_00_00_00_00_00_00_01 ++ (picture 3 0x42_09_10 ++ row_octets 16) ++ picture 1 0x02 ++ (picture 3 0x42_09_10 ++ row_octets 16) ++ picture 3 0x42_09_01)
    18 117
    -- behind 32 rows there may be applications and profiles
    ∷ reads
    (picture 12 0x88_00_00_00_00_00_00_00_00_00_00_02 ++ (picture 3 0x42_09_10 ++ row_octets 16) ++ (picture 3 0x42_09_10 ++ row_octets 16) ++ picture 4 0x01_02_01_33)
    (leading 8 (1 ∷ 0 ∷ 0 ∷ []) ++ whole_number 0 ++ number 0 ++ number 2 ++ (application 0 1 2 ++ number 9 ++ number 16 ++ rows 16)
    ++ (application 0 1 2 ++ number 9 ++ number 16 ++ rows 16) ++ number 1 ++ application 0 0 2 ++ ids_from 117 1 ++ number 0x33)
    -- ids are no rows: three rows, each with a list of 16 ids
    ∷ reads (picture 3 0x40_11_03 ++ repeated 3 (picture 3 0x16_08_10 ++ replicate 16 0x18))
    (setting ++ number 3 ++ (number 0x16 ++ number 8 ++ ids_from 6 16 ++ repeated 16 (number 0x18)) ++ (number 0x16 ++ number 8 ++ ids_from 25 16 ++ repeated 16 (number 0x18))
    ++ (number 0x16 ++ number 8 ++ ids_from 44 16 ++ repeated 16 (number 0x18)))
    -- 19: a container at depth 5 (from 1 in each message, TableCases.antt); 16 goes before 19, 19 before 17; a list at depth 4 may be empty
    ∷ refuses (picture 16 0x24_11_12_09_01_21_09_01_22_09_01_23_09_01_24_83) 16 15
    ∷ refuses (picture 16 0x24_11_12_09_01_21_09_01_22_09_01_23_09_01_24_03) 19 15
    ∷ refuses (picture 13 0x24_11_12_09_01_21_09_01_22_09_01_23_03) 17 12
    ∷ reads (picture 14 0x24_11_12_09_01_21_09_01_22_09_01_23_09_00)
    (released ++ number 9 ++ number 1 ++ number 0x21 ++ number 9 ++ number 1 ++ number 0x22 ++ number 9 ++ number 1 ++ number 0x23 ++ number 9 ++ number 0)
    -- an application's parameter is at depth 1; a string at depth 4 goes through all levels
    ∷ reads (picture 20 0x90_31_01_42_09_01_21_09_01_22_09_01_23_02_01_B1_00_41_00_42)
    (answered ++ number 1 ++ application 0 1 2 ++ number 9 ++ number 1 ++ number 0x21 ++ number 9 ++ number 1 ++ number 0x22 ++ number 9 ++ number 1 ++ number 0x23 ++ number 2
    ++ octet_string 15 (picture 1 0xB1) ++ configured)
    ∷ refuses (picture 17 0x90_31_01_42_09_01_21_09_01_22_09_01_23_09_01_24_02) 19 16
    -- an application entry: its eid, then its parameter, each with its bit; five bits of AID
    ∷ reads (picture 17 0x90_31_04_02_83_51_44_07_52_DF_53_07_54_00_41_00_42)
    (answered ++ number 4 ++ application 0 0 2 ++ (application 1 0 3 ++ number 0x51) ++ (application 0 1 4 ++ number 7 ++ number 0x52)
    ++ (application 1 1 31 ++ number 0x53 ++ number 7 ++ number 0x54) ++ configured)
    -- a configuration: class, maker, and a status with its bit
    ∷ reads (picture 9 0x90_31_00_80_41_00_42_00_43) (answered ++ number 0 ++ equipment 1 0x41 ++ whole_number 0x42 ++ whole_number 0x43)
    -- where components begin and how many rows they announce: messages that end behind a leading part, a number, a time, a string's length, a string, a
    -- count of ids, an id, a count of rows, of nested rows, a container kind, a count of applications, an entry, a class, a maker. Only rows are counted.
    ∷ stops [] 0 0 32
    ∷ stops (picture 1 0x20) 8 0 32
    ∷ stops (picture 2 0x24_11) 16 8 32
    ∷ stops (picture 10 0x80_00_00_00_00_00_00_00_00_01) 80 48 32
    ∷ stops (picture 5 0x28_11_12_02_A1) 32 24 32
    ∷ stops (picture 6 0x2A_11_12_02_A1_A2) 48 24 32
    ∷ stops (picture 3 0x62_11_02) 24 16 32
    ∷ stops (picture 4 0x62_11_02_18) 32 24 32
    ∷ stops (picture 3 0x40_11_03) 24 16 29
    ∷ stops (picture 6 0x40_11_03_16_09_02) 48 40 27
    ∷ stops (picture 5 0x40_11_03_16_07) 40 32 29
    ∷ stops (picture 3 0x90_31_02) 24 16 32
    ∷ stops (picture 4 0x90_31_02_82) 32 24 32
    ∷ stops (picture 5 0x90_31_00_80_41) 40 24 32
    ∷ stops (picture 7 0x90_31_00_80_41_00_42) 56 40 32
    ∷ []

unfoldable pub RuleCasesHold : Type 0
RuleCasesHold = Hold rule_cases

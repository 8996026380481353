-- Cases of the table of messages (Table.antt): each of the ten kinds with every choice of its presence bits, so that a part that is governed by another
-- bit, stands in another place or is of another kind is noticed; fill and mode with every bit; and how deep a container stands in each kind.
-- Taken from 01's table of choices and Annex A's order of components, not from the definitions. Names of parts are Annex A's.
-- Assumes nothing.
use Rattle.std.specs.Prelude.{ℕ, List, [], ◌∷◌, ◌++◌}
use Rattle.apdu_format.specs.Reading.{Value}
use Rattle.apdu_format.specs.Pictures.{picture, leading, number, whole_number, octet_string, ids_from, application, equipment, Case, reads, refuses, Hold}

-- ---- the parts of these messages: 11; 12; 02 A1 A2; 07 13 (a container that holds an eid); 14; 15; 01 16 07 17 (a row); 02 18 19 (two ids)

abbrev eid : List Value
eid = number 0x11

abbrev type : List Value
type = number 0x12

-- the two octets of the string start at octet k
abbrev credentials : ℕ → List Value
credentials k = octet_string k (picture 2 0xA1_A2)

abbrev parameter : List Value
parameter = number 7 ++ number 0x13

abbrev iid : List Value
iid = number 0x14

abbrev ret : List Value
ret = number 0x15

abbrev attr_list : List Value
attr_list = number 1 ++ number 0x16 ++ number 7 ++ number 0x17

-- the ids start at octet k
abbrev attr_id_list : ℕ → List Value
attr_id_list k = ids_from k 2 ++ number 0x18 ++ number 0x19

-- 09 01 21 09 01 22 09 01 23 07 24: lists in lists, the innermost container at depth 4 where the outermost is 1
abbrev four_deep : List Value
four_deep = number 9 ++ number 1 ++ number 0x21 ++ number 9 ++ number 1 ++ number 0x22 ++ number 9 ++ number 1 ++ number 0x23 ++ number 7 ++ number 0x24

-- ---- the cases

unfoldable pub table_cases : List Case
table_cases =
    -- 0, action request: credentials, parameter, iid, mode; then eid, action_type, access_credentials, action_parameter, iid
    reads (picture 3 0x00_11_12) (leading 0 (0 ∷ 0 ∷ 0 ∷ 0 ∷ []) ++ eid ++ type)
    ∷ reads (picture 3 0x01_11_12) (leading 0 (0 ∷ 0 ∷ 0 ∷ 1 ∷ []) ++ eid ++ type)
    ∷ reads (picture 6 0x08_11_12_02_A1_A2) (leading 0 (1 ∷ 0 ∷ 0 ∷ 0 ∷ []) ++ eid ++ type ++ credentials 4)
    ∷ reads (picture 5 0x04_11_12_07_13) (leading 0 (0 ∷ 1 ∷ 0 ∷ 0 ∷ []) ++ eid ++ type ++ parameter)
    ∷ reads (picture 4 0x02_11_12_14) (leading 0 (0 ∷ 0 ∷ 1 ∷ 0 ∷ []) ++ eid ++ type ++ iid)
    ∷ reads (picture 8 0x0C_11_12_02_A1_A2_07_13) (leading 0 (1 ∷ 1 ∷ 0 ∷ 0 ∷ []) ++ eid ++ type ++ credentials 4 ++ parameter)
    ∷ reads (picture 7 0x0A_11_12_02_A1_A2_14) (leading 0 (1 ∷ 0 ∷ 1 ∷ 0 ∷ []) ++ eid ++ type ++ credentials 4 ++ iid)
    ∷ reads (picture 6 0x06_11_12_07_13_14) (leading 0 (0 ∷ 1 ∷ 1 ∷ 0 ∷ []) ++ eid ++ type ++ parameter ++ iid)
    ∷ reads (picture 9 0x0F_11_12_02_A1_A2_07_13_14) (leading 0 (1 ∷ 1 ∷ 1 ∷ 1 ∷ []) ++ eid ++ type ++ credentials 4 ++ parameter ++ iid)
    -- its parameter is at depth 1
    ∷ reads (picture 14 0x04_11_12_09_01_21_09_01_22_09_01_23_07_24) (leading 0 (0 ∷ 1 ∷ 0 ∷ 0 ∷ []) ++ eid ++ type ++ four_deep)
    ∷ refuses (picture 16 0x04_11_12_09_01_21_09_01_22_09_01_23_09_01_24_07) 19 15
    -- 1, action response: iid, parameter, ret, fill of 1 bit; then eid, iid, response_parameter, ret
    ∷ reads (picture 2 0x10_11) (leading 1 (0 ∷ 0 ∷ 0 ∷ 0 ∷ []) ++ eid)
    ∷ reads (picture 2 0x11_11) (leading 1 (0 ∷ 0 ∷ 0 ∷ 1 ∷ []) ++ eid)
    ∷ reads (picture 3 0x18_11_14) (leading 1 (1 ∷ 0 ∷ 0 ∷ 0 ∷ []) ++ eid ++ iid)
    ∷ reads (picture 4 0x14_11_07_13) (leading 1 (0 ∷ 1 ∷ 0 ∷ 0 ∷ []) ++ eid ++ parameter)
    ∷ reads (picture 3 0x12_11_15) (leading 1 (0 ∷ 0 ∷ 1 ∷ 0 ∷ []) ++ eid ++ ret)
    ∷ reads (picture 5 0x1C_11_14_07_13) (leading 1 (1 ∷ 1 ∷ 0 ∷ 0 ∷ []) ++ eid ++ iid ++ parameter)
    ∷ reads (picture 4 0x1A_11_14_15) (leading 1 (1 ∷ 0 ∷ 1 ∷ 0 ∷ []) ++ eid ++ iid ++ ret)
    ∷ reads (picture 5 0x16_11_07_13_15) (leading 1 (0 ∷ 1 ∷ 1 ∷ 0 ∷ []) ++ eid ++ parameter ++ ret)
    ∷ reads (picture 6 0x1F_11_14_07_13_15) (leading 1 (1 ∷ 1 ∷ 1 ∷ 1 ∷ []) ++ eid ++ iid ++ parameter ++ ret)
    -- its parameter is at depth 1
    ∷ reads (picture 13 0x14_11_09_01_21_09_01_22_09_01_23_07_24) (leading 1 (0 ∷ 1 ∷ 0 ∷ 0 ∷ []) ++ eid ++ four_deep)
    ∷ refuses (picture 15 0x14_11_09_01_21_09_01_22_09_01_23_09_01_24_07) 19 14
    -- 2, event request: credentials, parameter, iid, mode; then eid, event_type, access_credentials, event_parameter, iid
    ∷ reads (picture 3 0x20_11_12) (leading 2 (0 ∷ 0 ∷ 0 ∷ 0 ∷ []) ++ eid ++ type)
    ∷ reads (picture 3 0x21_11_12) (leading 2 (0 ∷ 0 ∷ 0 ∷ 1 ∷ []) ++ eid ++ type)
    ∷ reads (picture 6 0x28_11_12_02_A1_A2) (leading 2 (1 ∷ 0 ∷ 0 ∷ 0 ∷ []) ++ eid ++ type ++ credentials 4)
    ∷ reads (picture 5 0x24_11_12_07_13) (leading 2 (0 ∷ 1 ∷ 0 ∷ 0 ∷ []) ++ eid ++ type ++ parameter)
    ∷ reads (picture 4 0x22_11_12_14) (leading 2 (0 ∷ 0 ∷ 1 ∷ 0 ∷ []) ++ eid ++ type ++ iid)
    ∷ reads (picture 8 0x2C_11_12_02_A1_A2_07_13) (leading 2 (1 ∷ 1 ∷ 0 ∷ 0 ∷ []) ++ eid ++ type ++ credentials 4 ++ parameter)
    ∷ reads (picture 7 0x2A_11_12_02_A1_A2_14) (leading 2 (1 ∷ 0 ∷ 1 ∷ 0 ∷ []) ++ eid ++ type ++ credentials 4 ++ iid)
    ∷ reads (picture 6 0x26_11_12_07_13_14) (leading 2 (0 ∷ 1 ∷ 1 ∷ 0 ∷ []) ++ eid ++ type ++ parameter ++ iid)
    ∷ reads (picture 9 0x2F_11_12_02_A1_A2_07_13_14) (leading 2 (1 ∷ 1 ∷ 1 ∷ 1 ∷ []) ++ eid ++ type ++ credentials 4 ++ parameter ++ iid)
    -- its parameter is at depth 1
    ∷ reads (picture 14 0x24_11_12_09_01_21_09_01_22_09_01_23_07_24) (leading 2 (0 ∷ 1 ∷ 0 ∷ 0 ∷ []) ++ eid ++ type ++ four_deep)
    ∷ refuses (picture 16 0x24_11_12_09_01_21_09_01_22_09_01_23_09_01_24_07) 19 15
    -- 3, event response: iid, ret, fill of 2 bits; then eid, iid, ret
    ∷ reads (picture 2 0x33_11) (leading 3 (0 ∷ 0 ∷ 3 ∷ []) ++ eid)
    ∷ reads (picture 3 0x3A_11_14) (leading 3 (1 ∷ 0 ∷ 2 ∷ []) ++ eid ++ iid)
    ∷ reads (picture 3 0x35_11_15) (leading 3 (0 ∷ 1 ∷ 1 ∷ []) ++ eid ++ ret)
    ∷ reads (picture 4 0x3C_11_14_15) (leading 3 (1 ∷ 1 ∷ 0 ∷ []) ++ eid ++ iid ++ ret)
    -- 4, set request: credentials, iid, fill of 1 bit, mode; then eid, access_credentials, attr_list, iid
    ∷ reads (picture 6 0x40_11_01_16_07_17) (leading 4 (0 ∷ 0 ∷ 0 ∷ 0 ∷ []) ++ eid ++ attr_list)
    ∷ reads (picture 6 0x42_11_01_16_07_17) (leading 4 (0 ∷ 0 ∷ 1 ∷ 0 ∷ []) ++ eid ++ attr_list)
    ∷ reads (picture 9 0x49_11_02_A1_A2_01_16_07_17) (leading 4 (1 ∷ 0 ∷ 0 ∷ 1 ∷ []) ++ eid ++ credentials 3 ++ attr_list)
    ∷ reads (picture 7 0x44_11_01_16_07_17_14) (leading 4 (0 ∷ 1 ∷ 0 ∷ 0 ∷ []) ++ eid ++ attr_list ++ iid)
    ∷ reads (picture 10 0x4F_11_02_A1_A2_01_16_07_17_14) (leading 4 (1 ∷ 1 ∷ 1 ∷ 1 ∷ []) ++ eid ++ credentials 3 ++ attr_list ++ iid)
    -- its attributes' values are at depth 1
    ∷ reads (picture 15 0x40_11_01_20_09_01_21_09_01_22_09_01_23_07_24) (leading 4 (0 ∷ 0 ∷ 0 ∷ 0 ∷ []) ++ eid ++ number 1 ++ number 0x20 ++ four_deep)
    ∷ refuses (picture 17 0x40_11_01_20_09_01_21_09_01_22_09_01_23_09_01_24_07) 19 16
    -- 5, set response: iid, ret, fill of 2 bits; then eid, iid, ret
    ∷ reads (picture 2 0x53_11) (leading 5 (0 ∷ 0 ∷ 3 ∷ []) ++ eid)
    ∷ reads (picture 3 0x5A_11_14) (leading 5 (1 ∷ 0 ∷ 2 ∷ []) ++ eid ++ iid)
    ∷ reads (picture 3 0x55_11_15) (leading 5 (0 ∷ 1 ∷ 1 ∷ []) ++ eid ++ ret)
    ∷ reads (picture 4 0x5C_11_14_15) (leading 5 (1 ∷ 1 ∷ 0 ∷ []) ++ eid ++ iid ++ ret)
    -- 6, get request: credentials, iid, id list, fill of 1 bit; then eid, access_credentials, iid, attr_id_list
    ∷ reads (picture 2 0x60_11) (leading 6 (0 ∷ 0 ∷ 0 ∷ 0 ∷ []) ++ eid)
    ∷ reads (picture 2 0x61_11) (leading 6 (0 ∷ 0 ∷ 0 ∷ 1 ∷ []) ++ eid)
    ∷ reads (picture 5 0x68_11_02_A1_A2) (leading 6 (1 ∷ 0 ∷ 0 ∷ 0 ∷ []) ++ eid ++ credentials 3)
    ∷ reads (picture 3 0x64_11_14) (leading 6 (0 ∷ 1 ∷ 0 ∷ 0 ∷ []) ++ eid ++ iid)
    ∷ reads (picture 5 0x62_11_02_18_19) (leading 6 (0 ∷ 0 ∷ 1 ∷ 0 ∷ []) ++ eid ++ attr_id_list 3)
    ∷ reads (picture 6 0x6C_11_02_A1_A2_14) (leading 6 (1 ∷ 1 ∷ 0 ∷ 0 ∷ []) ++ eid ++ credentials 3 ++ iid)
    ∷ reads (picture 8 0x6A_11_02_A1_A2_02_18_19) (leading 6 (1 ∷ 0 ∷ 1 ∷ 0 ∷ []) ++ eid ++ credentials 3 ++ attr_id_list 6)
    ∷ reads (picture 6 0x66_11_14_02_18_19) (leading 6 (0 ∷ 1 ∷ 1 ∷ 0 ∷ []) ++ eid ++ iid ++ attr_id_list 4)
    ∷ reads (picture 9 0x6F_11_02_A1_A2_14_02_18_19) (leading 6 (1 ∷ 1 ∷ 1 ∷ 1 ∷ []) ++ eid ++ credentials 3 ++ iid ++ attr_id_list 7)
    -- 7, get response: iid, attribute list, ret, fill of 1 bit; then eid, iid, attributelist, ret
    ∷ reads (picture 2 0x70_11) (leading 7 (0 ∷ 0 ∷ 0 ∷ 0 ∷ []) ++ eid)
    ∷ reads (picture 2 0x71_11) (leading 7 (0 ∷ 0 ∷ 0 ∷ 1 ∷ []) ++ eid)
    ∷ reads (picture 3 0x78_11_14) (leading 7 (1 ∷ 0 ∷ 0 ∷ 0 ∷ []) ++ eid ++ iid)
    ∷ reads (picture 6 0x74_11_01_16_07_17) (leading 7 (0 ∷ 1 ∷ 0 ∷ 0 ∷ []) ++ eid ++ attr_list)
    ∷ reads (picture 3 0x72_11_15) (leading 7 (0 ∷ 0 ∷ 1 ∷ 0 ∷ []) ++ eid ++ ret)
    ∷ reads (picture 7 0x7C_11_14_01_16_07_17) (leading 7 (1 ∷ 1 ∷ 0 ∷ 0 ∷ []) ++ eid ++ iid ++ attr_list)
    ∷ reads (picture 4 0x7A_11_14_15) (leading 7 (1 ∷ 0 ∷ 1 ∷ 0 ∷ []) ++ eid ++ iid ++ ret)
    ∷ reads (picture 7 0x76_11_01_16_07_17_15) (leading 7 (0 ∷ 1 ∷ 1 ∷ 0 ∷ []) ++ eid ++ attr_list ++ ret)
    ∷ reads (picture 8 0x7F_11_14_01_16_07_17_15) (leading 7 (1 ∷ 1 ∷ 1 ∷ 1 ∷ []) ++ eid ++ iid ++ attr_list ++ ret)
    -- its attributes' values are at depth 1
    ∷ reads (picture 15 0x74_11_01_20_09_01_21_09_01_22_09_01_23_07_24) (leading 7 (0 ∷ 1 ∷ 0 ∷ 0 ∷ []) ++ eid ++ number 1 ++ number 0x20 ++ four_deep)
    ∷ refuses (picture 17 0x74_11_01_20_09_01_21_09_01_22_09_01_23_09_01_24_07) 19 16
    -- 8, BST: second list, manufacturerid of 16 bits, individualid of 27; then time of four octets, profile, mand_applications, nonmand_applications,
    -- profile_list. Manufacturer 43,981 and individual 19,088,743, then each with all its bits.
    ∷ reads (picture 16 0x85_5E_69_23_45_67_5F_5E_10_00_31_01_02_02_33_34)
    (leading 8 (0 ∷ 43_981 ∷ 19_088_743 ∷ []) ++ whole_number 1_600_000_000 ++ number 0x31 ++ number 1 ++ application 0 0 2 ++ ids_from 14 2 ++ number 0x33 ++ number 0x34)
    ∷ reads (picture 18 0x8D_5E_69_23_45_67_5F_5E_10_00_31_01_02_01_03_02_33_34)
    (leading 8 (1 ∷ 43_981 ∷ 19_088_743 ∷ []) ++ whole_number 1_600_000_000 ++ number 0x31 ++ number 1 ++ application 0 0 2 ++ number 1 ++ application 0 0 3 ++ ids_from 16 2 ++ number 0x33 ++ number 0x34)
    ∷ reads (picture 13 0x87_FF_F8_00_00_00_00_00_00_00_00_00_00) (leading 8 (0 ∷ 65_535 ∷ 0 ∷ []) ++ whole_number 0 ++ number 0 ++ number 0 ++ ids_from 13 0)
    ∷ reads (picture 14 0x88_00_07_FF_FF_FF_00_00_00_01_00_00_00_00) (leading 8 (1 ∷ 0 ∷ 134_217_727 ∷ []) ++ whole_number 1 ++ number 0 ++ number 0 ++ number 0 ++ ids_from 14 0)
    -- 9, VST: fill of 4 bits; then profile, applications, obe_configuration
    ∷ reads (picture 9 0x9A_31_02_02_03_00_41_00_42) (leading 9 (10 ∷ []) ++ number 0x31 ++ number 2 ++ application 0 0 2 ++ application 0 0 3 ++ equipment 0 0x41 ++ whole_number 0x42)
    ∷ []

unfoldable pub TableCasesHold : Type 0
TableCasesHold = Hold table_cases

-- What messages are made of (01, "Messages", its components; ISO 15628, Annex A). 01's leading part is two of these, choice and lead; its octet
-- string is three, form, length and octets; and list_start is none: it takes no bit, and notes where a list of ids starts.
-- Assumes nothing.
use Rattle.std.specs.Prelude.{ℕ}

pub data Component : Type 0 where
  choice : Component  -- the four bits that begin a message
  lead : ℕ → Component  -- the rest of the leading part of a message of this choice
  integer : Component  -- an extension bit and a number 0..127
  fixed : ℕ → Component  -- a number of so many octets
  string_form : Component  -- an octet string's extension bit,
  string_length : Component  -- its length,
  string_octets : ℕ → Component  -- and its octets
  id_count : Component  -- a count of numbers: attribute ids, profiles
  list_start : Component  -- where those numbers start
  row_count : ℕ → Component  -- a count of attribute rows whose containers stand at this depth
  entry_count : Component  -- a count of application entries
  entry : Component  -- an application entry's first octet
  container : ℕ → Component  -- the kind of a container at this depth
  class : Component  -- a configuration's first two octets

-- the container kinds that are read here, numbered by Annex A
abbrev pub octet_string : ℕ
octet_string = 2

abbrev pub dsrc_eid : ℕ
dsrc_eid = 7

abbrev pub attribute_id_list : ℕ
attribute_id_list = 8

abbrev pub attribute_list : ℕ
attribute_list = 9

-- The words of the text, character by character: an auditor compares the quoted word above each with its octets in ASCII.
-- Assumes nothing.
use Rattle.std.specs.Prelude.{ℕ, List, [], ◌∷◌}

-- ---- the ten kinds, as the first word of a message

-- `action_request_law`
abbrev pub action_request_word : List ℕ
action_request_word = 97 ∷ 99 ∷ 116 ∷ 105 ∷ 111 ∷ 110 ∷ 45 ∷ 114 ∷ 101 ∷ 113 ∷ 117 ∷ 101 ∷ 115 ∷ 116 ∷ []

-- `action_response_law`
abbrev pub action_response_word : List ℕ
action_response_word = 97 ∷ 99 ∷ 116 ∷ 105 ∷ 111 ∷ 110 ∷ 45 ∷ 114 ∷ 101 ∷ 115 ∷ 112 ∷ 111 ∷ 110 ∷ 115 ∷ 101 ∷ []

-- `event_request_law`
abbrev pub event_request_word : List ℕ
event_request_word = 101 ∷ 118 ∷ 101 ∷ 110 ∷ 116 ∷ 45 ∷ 114 ∷ 101 ∷ 113 ∷ 117 ∷ 101 ∷ 115 ∷ 116 ∷ []

-- `event_response_law`
abbrev pub event_response_word : List ℕ
event_response_word = 101 ∷ 118 ∷ 101 ∷ 110 ∷ 116 ∷ 45 ∷ 114 ∷ 101 ∷ 115 ∷ 112 ∷ 111 ∷ 110 ∷ 115 ∷ 101 ∷ []

-- `set_request_law`
abbrev pub set_request_word : List ℕ
set_request_word = 115 ∷ 101 ∷ 116 ∷ 45 ∷ 114 ∷ 101 ∷ 113 ∷ 117 ∷ 101 ∷ 115 ∷ 116 ∷ []

-- `set_response_law`
abbrev pub set_response_word : List ℕ
set_response_word = 115 ∷ 101 ∷ 116 ∷ 45 ∷ 114 ∷ 101 ∷ 115 ∷ 112 ∷ 111 ∷ 110 ∷ 115 ∷ 101 ∷ []

-- `get_request_law`
abbrev pub get_request_word : List ℕ
get_request_word = 103 ∷ 101 ∷ 116 ∷ 45 ∷ 114 ∷ 101 ∷ 113 ∷ 117 ∷ 101 ∷ 115 ∷ 116 ∷ []

-- `get_response_law`
abbrev pub get_response_word : List ℕ
get_response_word = 103 ∷ 101 ∷ 116 ∷ 45 ∷ 114 ∷ 101 ∷ 115 ∷ 112 ∷ 111 ∷ 110 ∷ 115 ∷ 101 ∷ []

-- `bst`
abbrev pub bst_word : List ℕ
bst_word = 98 ∷ 115 ∷ 116 ∷ []

-- `vst`
abbrev pub vst_word : List ℕ
vst_word = 118 ∷ 115 ∷ 116 ∷ []

-- ---- the fields, each with the space before it and the sign behind it

-- ` mode=`
abbrev pub mode_is : List ℕ
mode_is = 32 ∷ 109 ∷ 111 ∷ 100 ∷ 101 ∷ 61 ∷ []

-- ` eid=`
abbrev pub eid_is : List ℕ
eid_is = 32 ∷ 101 ∷ 105 ∷ 100 ∷ 61 ∷ []

-- ` type=`
abbrev pub type_is : List ℕ
type_is = 32 ∷ 116 ∷ 121 ∷ 112 ∷ 101 ∷ 61 ∷ []

-- ` credentials=`
abbrev pub credentials_is : List ℕ
credentials_is = 32 ∷ 99 ∷ 114 ∷ 101 ∷ 100 ∷ 101 ∷ 110 ∷ 116 ∷ 105 ∷ 97 ∷ 108 ∷ 115 ∷ 61 ∷ []

-- ` parameter=`
abbrev pub parameter_is : List ℕ
parameter_is = 32 ∷ 112 ∷ 97 ∷ 114 ∷ 97 ∷ 109 ∷ 101 ∷ 116 ∷ 101 ∷ 114 ∷ 61 ∷ []

-- ` iid=`
abbrev pub iid_is : List ℕ
iid_is = 32 ∷ 105 ∷ 105 ∷ 100 ∷ 61 ∷ []

-- ` fill=`
abbrev pub fill_is : List ℕ
fill_is = 32 ∷ 102 ∷ 105 ∷ 108 ∷ 108 ∷ 61 ∷ []

-- ` ret=`
abbrev pub ret_is : List ℕ
ret_is = 32 ∷ 114 ∷ 101 ∷ 116 ∷ 61 ∷ []

-- ` attributes=`
abbrev pub attributes_is : List ℕ
attributes_is = 32 ∷ 97 ∷ 116 ∷ 116 ∷ 114 ∷ 105 ∷ 98 ∷ 117 ∷ 116 ∷ 101 ∷ 115 ∷ 61 ∷ []

-- ` ids=`
abbrev pub ids_is : List ℕ
ids_is = 32 ∷ 105 ∷ 100 ∷ 115 ∷ 61 ∷ []

-- ` manufacturer=`
abbrev pub manufacturer_is : List ℕ
manufacturer_is = 32 ∷ 109 ∷ 97 ∷ 110 ∷ 117 ∷ 102 ∷ 97 ∷ 99 ∷ 116 ∷ 117 ∷ 114 ∷ 101 ∷ 114 ∷ 61 ∷ []

-- ` individual=`
abbrev pub individual_is : List ℕ
individual_is = 32 ∷ 105 ∷ 110 ∷ 100 ∷ 105 ∷ 118 ∷ 105 ∷ 100 ∷ 117 ∷ 97 ∷ 108 ∷ 61 ∷ []

-- ` time=`
abbrev pub time_is : List ℕ
time_is = 32 ∷ 116 ∷ 105 ∷ 109 ∷ 101 ∷ 61 ∷ []

-- ` profile=`
abbrev pub profile_is : List ℕ
profile_is = 32 ∷ 112 ∷ 114 ∷ 111 ∷ 102 ∷ 105 ∷ 108 ∷ 101 ∷ 61 ∷ []

-- ` mandatory=`
abbrev pub mandatory_is : List ℕ
mandatory_is = 32 ∷ 109 ∷ 97 ∷ 110 ∷ 100 ∷ 97 ∷ 116 ∷ 111 ∷ 114 ∷ 121 ∷ 61 ∷ []

-- ` optional=`
abbrev pub optional_is : List ℕ
optional_is = 32 ∷ 111 ∷ 112 ∷ 116 ∷ 105 ∷ 111 ∷ 110 ∷ 97 ∷ 108 ∷ 61 ∷ []

-- ` profiles=`
abbrev pub profiles_is : List ℕ
profiles_is = 32 ∷ 112 ∷ 114 ∷ 111 ∷ 102 ∷ 105 ∷ 108 ∷ 101 ∷ 115 ∷ 61 ∷ []

-- ` applications=`
abbrev pub applications_is : List ℕ
applications_is = 32 ∷ 97 ∷ 112 ∷ 112 ∷ 108 ∷ 105 ∷ 99 ∷ 97 ∷ 116 ∷ 105 ∷ 111 ∷ 110 ∷ 115 ∷ 61 ∷ []

-- ` class=`
abbrev pub class_is : List ℕ
class_is = 32 ∷ 99 ∷ 108 ∷ 97 ∷ 115 ∷ 115 ∷ 61 ∷ []

-- ` maker=`
abbrev pub maker_is : List ℕ
maker_is = 32 ∷ 109 ∷ 97 ∷ 107 ∷ 101 ∷ 114 ∷ 61 ∷ []

-- ` status=`
abbrev pub status_is : List ℕ
status_is = 32 ∷ 115 ∷ 116 ∷ 97 ∷ 116 ∷ 117 ∷ 115 ∷ 61 ∷ []

-- ---- the containers

-- `octets:`
abbrev pub octets_of : List ℕ
octets_of = 111 ∷ 99 ∷ 116 ∷ 101 ∷ 116 ∷ 115 ∷ 58 ∷ []

-- `eid:`
abbrev pub eid_of : List ℕ
eid_of = 101 ∷ 105 ∷ 100 ∷ 58 ∷ []

-- `ids:`
abbrev pub ids_of : List ℕ
ids_of = 105 ∷ 100 ∷ 115 ∷ 58 ∷ []

-- `attributes:`
abbrev pub attributes_of : List ℕ
attributes_of = 97 ∷ 116 ∷ 116 ∷ 114 ∷ 105 ∷ 98 ∷ 117 ∷ 116 ∷ 101 ∷ 115 ∷ 58 ∷ []

-- ---- the other lines

-- `refused-`
abbrev pub refused_with : List ℕ
refused_with = 114 ∷ 101 ∷ 102 ∷ 117 ∷ 115 ∷ 101 ∷ 100 ∷ 45 ∷ []

-- ` at `
abbrev pub at_place : List ℕ
at_place = 32 ∷ 97 ∷ 116 ∷ 32 ∷ []

-- `line answer\n`
abbrev pub heading : List ℕ
heading = 108 ∷ 105 ∷ 110 ∷ 101 ∷ 32 ∷ 97 ∷ 110 ∷ 115 ∷ 119 ∷ 101 ∷ 114 ∷ 10 ∷ []

-- `messages `
abbrev pub messages_are : List ℕ
messages_are = 109 ∷ 101 ∷ 115 ∷ 115 ∷ 97 ∷ 103 ∷ 101 ∷ 115 ∷ 32 ∷ []

-- ` refused `
abbrev pub refused_are : List ℕ
refused_are = 32 ∷ 114 ∷ 101 ∷ 102 ∷ 117 ∷ 115 ∷ 101 ∷ 100 ∷ 32 ∷ []

-- ` same `
abbrev pub same_are : List ℕ
same_are = 32 ∷ 115 ∷ 97 ∷ 109 ∷ 101 ∷ 32 ∷ []

-- 01's rules for one component ("Messages"; rows 15 to 19 of the refusal table): its fields, its checks in 01's order, what it brings with it, and the
-- attribute rows that it announces. fs are the numbers of a component's fields; room is how many attribute rows may still be announced.
-- Assumes nothing.
use Rattle.std.specs.Prelude.{ℕ, zero, suc, ◌*◌, List, [], ◌∷◌, ◌++◌, Bool, true, false, ◌||◌, not, length, get_or, ltb, leb, eqb}
use Rattle.refusals.specs.Check.{pick, Check, check}
use Rattle.apdu_format.specs.Limits.{most_counted, deepest}
use Rattle.apdu_format.specs.Component.{Component, choice, lead, integer, fixed, string_form, string_length, string_octets, id_count, list_start, row_count, entry_count, entry, container, class, octet_string, dsrc_eid, attribute_id_list, attribute_list}
use Rattle.apdu_format.specs.Table.{Part, always, given, table, layout_of}

-- ---- fields

-- fields of these widths, or so many octets as they stand
pub data Shape : Type 0 where
  widths : List ℕ → Shape
  raw : ℕ → Shape

-- an extension bit, and seven more
abbrev pub extensible : Shape
extensible = widths (1 ∷ 7 ∷ [])

unfoldable pub shape : Component → Shape
shape choice = widths (4 ∷ [])
shape (lead k) = widths (layout_of k).after
shape integer = extensible
shape (fixed n) = widths (8 * n ∷ [])
shape string_form = widths (1 ∷ [])
shape string_length = widths (7 ∷ [])
shape (string_octets n) = raw n
shape id_count = extensible
shape list_start = raw 0
shape (row_count d) = extensible
shape entry_count = extensible
shape entry = widths (1 ∷ 1 ∷ 1 ∷ 5 ∷ [])
shape (container d) = extensible
shape class = widths (1 ∷ 15 ∷ [])

-- whether this is where one of 01's components begins
unfoldable pub begins : Component → Bool
begins choice = true
begins (lead k) = false
begins integer = true
begins (fixed n) = true
begins string_form = true
begins string_length = false
begins (string_octets n) = false
begins id_count = true
begins list_start = false
begins (row_count d) = true
begins entry_count = true
begins entry = true
begins (container d) = true
begins class = true

-- ---- checks

abbrev pub is_set : List ℕ → ℕ → Bool
is_set fs i = eqb (get_or fs i 0) 1

-- the number behind an extension bit
abbrev pub after : List ℕ → ℕ
after fs = get_or fs 1 0

abbrev pub known_kind : ℕ → Bool
known_kind k = eqb k octet_string || eqb k dsrc_eid || eqb k attribute_id_list || eqb k attribute_list

-- the checks of a component that has all its bits, in order
unfoldable pub checks_of : Component → ℕ → List ℕ → List Check
checks_of choice room fs = check 15 (leb (length table) (get_or fs 0 0)) ∷ []
checks_of (lead k) room fs = []
checks_of integer room fs = check 16 (is_set fs 0) ∷ []
checks_of (fixed n) room fs = []
checks_of string_form room fs = check 16 (is_set fs 0) ∷ []
checks_of string_length room fs = []
checks_of (string_octets n) room fs = []
checks_of id_count room fs = check 16 (is_set fs 0) ∷ check 18 (ltb most_counted (after fs)) ∷ []
checks_of list_start room fs = []
checks_of (row_count d) room fs = check 16 (is_set fs 0) ∷ check 18 (ltb most_counted (after fs) || ltb room (after fs)) ∷ []
checks_of entry_count room fs = check 16 (is_set fs 0) ∷ check 18 (ltb most_counted (after fs)) ∷ []
checks_of entry room fs = check 16 (is_set fs 2) ∷ []
checks_of (container d) room fs = check 16 (is_set fs 0) ∷ check 19 (ltb deepest d) ∷ check 17 (not (known_kind (after fs))) ∷ []
checks_of class room fs = []

-- ---- what follows

abbrev pub when : Bool → List Component → List Component
when p is = pick p is []

-- the parts of a line that are there
unfoldable pub present : List ℕ → List Part → List Component
present fs [] = []
present fs (always i ∷ ps) = (i ∷ []) ++ present fs ps
present fs (given n i ∷ ps) = when (is_set fs n) (i ∷ []) ++ present fs ps

unfoldable pub times : ℕ → List Component → List Component
times zero is = []
times (suc n) is = is ++ times n is

-- what a container of this kind at this depth holds
unfoldable pub content : ℕ → ℕ → List Component
content d k =
    pick (eqb k octet_string) (string_form ∷ [])
    (pick (eqb k dsrc_eid) (integer ∷ []) (pick (eqb k attribute_id_list) (id_count ∷ []) (when (eqb k attribute_list) (row_count (suc d) ∷ []))))

-- what a component brings with it, next in the message
unfoldable pub brings : Component → List ℕ → List Component
brings choice fs = lead (get_or fs 0 0) ∷ []
brings (lead k) fs = present fs (layout_of k).body
brings integer fs = []
brings (fixed n) fs = []
brings string_form fs = string_length ∷ []
brings string_length fs = string_octets (get_or fs 0 0) ∷ []
brings (string_octets n) fs = []
brings id_count fs = (list_start ∷ []) ++ times (after fs) (integer ∷ [])
brings list_start fs = []
brings (row_count d) fs = times (after fs) (integer ∷ container d ∷ [])
brings entry_count fs = times (after fs) (entry ∷ [])
brings entry fs = when (is_set fs 0) (integer ∷ []) ++ when (is_set fs 1) (container 1 ∷ [])
brings (container d) fs = content d (after fs)
brings class fs = (fixed 2 ∷ []) ++ when (is_set fs 0) (fixed 2 ∷ [])

-- the attribute rows that a component announces
unfoldable pub announced : Component → List ℕ → ℕ
announced choice fs = 0
announced (lead k) fs = 0
announced integer fs = 0
announced (fixed n) fs = 0
announced string_form fs = 0
announced string_length fs = 0
announced (string_octets n) fs = 0
announced id_count fs = 0
announced list_start fs = 0
announced (row_count d) fs = after fs
announced entry_count fs = 0
announced entry fs = 0
announced (container d) fs = 0
announced class fs = 0

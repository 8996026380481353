-- The directory (01, "Reading and setting attributes"): a list of attribute rows, when it is sound, and what looking up an id gives.
-- Assumes nothing.
use Rattle.std.specs.Prelude.{ℕ, suc, ◌+◌, Bool, true, false, not, ◌&&◌, ◌||◌, Option, Some, None, List, [], ◌∷◌, ltb, leb, eqb, length, get_or}
use Rattle.std.specs.Borrow.{Bor}
use Rattle.refusals.specs.Check.{pick, check, first_of, Answer, decided}
use Rattle.directory.specs.declared.Row.{Row}
use Rattle.directory.specs.Part.{PartOf}

-- ---- limits

abbrev pub most_rows : ℕ
most_rows = 32

abbrev pub largest_id : ℕ
largest_id = 127

abbrev pub longest_row : ℕ
longest_row = 127

-- ---- soundness: ids differ and are at most 127, parts lie inside their area, no two rows share an octet; at most 32 rows of at most 127 octets

-- the octets of a row's area, of areas of so many octets
abbrev pub area_octets : (factory writable : ℕ) → Row → ℕ
area_octets factory writable row = pick row.writable writable factory

-- an id up to 127, a length up to 127, a part inside its area
unfoldable pub row_sound : (factory writable : ℕ) → Row → Bool
row_sound factory writable row =
    leb row.id largest_id && (leb row.length longest_row && leb (row.start + row.length) (area_octets factory writable row))

unfoldable pub each_sound : (factory writable : ℕ) → List Row → Bool
each_sound factory writable [] = true
each_sound factory writable (row ∷ rows) = row_sound factory writable row && each_sound factory writable rows

-- in the same area
abbrev pub same_area : Bool → Bool → Bool
same_area true b = b
same_area false b = not b

-- both rows have an octet in common: each starts before the other ends, and neither is empty
unfoldable pub share_octet : Row → Row → Bool
share_octet a b =
    same_area a.writable b.writable
    && (ltb 0 a.length && (ltb 0 b.length && (ltb a.start (b.start + b.length) && ltb b.start (a.start + a.length))))

-- two rows that may not stand in one directory
unfoldable pub clashes : Row → Row → Bool
clashes a b = eqb a.id b.id || share_octet a b

unfoldable pub apart_from : Row → List Row → Bool
apart_from a [] = true
apart_from a (b ∷ rows) = not (clashes a b) && apart_from a rows

unfoldable pub all_apart : List Row → Bool
all_apart [] = true
all_apart (row ∷ rows) = apart_from row rows && all_apart rows

unfoldable pub sound_directory : (factory writable : ℕ) → List Row → Bool
sound_directory factory writable rows = leb (length rows) most_rows && (each_sound factory writable rows && all_apart rows)

-- ---- looking up

abbrev pub no_row : Row
no_row = record { id = 0; writable = false; start = 0; length = 0; protected = false }

-- the index of the first row with the id, or the number of rows
unfoldable pub index_of : ℕ → List Row → ℕ
index_of id [] = 0
index_of id (row ∷ rows) = pick (eqb row.id id) 0 (suc (index_of id rows))

unfoldable pub known_in : ℕ → List Row → Bool
known_in id rows = ltb (index_of id rows) (length rows)

unfoldable pub row_of : ℕ → List Row → Row
row_of id rows = get_or rows (index_of id rows) no_row

-- the first row with the id
unfoldable pub first_row : List Row → ℕ → Option Row
first_row rows id = pick (known_in id rows) (Some (row_of id rows)) None

-- the first row with the id of a directory of at most 32 rows; of more, none
unfoldable pub finding : List Row → ℕ → Option Row
finding rows id = pick (leb (length rows) most_rows) (first_row rows id) None

-- the row whose part lookup gives; without one, or in a directory that is not sound, the empty part at the factory area's front
unfoldable pub lookup_row : (factory writable : ℕ) → List Row → ℕ → Row
lookup_row factory writable rows id = pick (sound_directory factory writable rows && known_in id rows) (row_of id rows) no_row

abbrev pub area_of : Bor (List ℕ) → Bor (List ℕ) → Row → Bor (List ℕ)
area_of factory writable row = pick row.writable writable factory

-- r is what lookup hands back: that very part of the factory area or of the writable area, and no copy
pub record LookedUp (rows : List Row) (factory writable : Bor (List ℕ)) (id : ℕ) (r : Bor (List ℕ)) : Type 0 where
  pub part :
      let row = lookup_row (length factory.now) (length writable.now) rows id in
      PartOf (area_of factory writable row) row.start row.length r

-- the second call: 26, else whether the id is known
unfoldable pub knowing : (factory writable : ℕ) → List Row → ℕ → Answer Bool
knowing factory writable rows id = decided (first_of (check 26 (not (sound_directory factory writable rows)) ∷ [])) (known_in id rows)

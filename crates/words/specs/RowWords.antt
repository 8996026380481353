-- Attribute rows as words, five each: id, area (0 factory, 1 writable), start, length, and whether it is protected (0: not). A word left over, or more than
-- 32 rows, are 33 rows, which each call refuses as 26.
-- Assumes nothing.
use Rattle.std.specs.Prelude.{ℕ, ◌+◌, ◌*◌, ◌/◌, ◌%◌, ◌^◌, ◌≤◌, ◌<◌, ◌≡◌, Bool, false, not, ◌&&◌, List, [], ◌∷◌, ◌++◌, length, get_or, drop, replicate, eqb, ltb, leb}
use Rattle.refusals.specs.Check.{pick}
use Rattle.directory.specs.declared.Row.{Row}
use Rattle.directory.specs.Directory.{most_rows, sound_directory, no_row}
use Rattle.words.specs.Items.{words_of, items_from, All}
use Rattle.words.specs.Word.{narrow_to}

-- ---- packing

abbrev pub area_word : (writable : Bool) → ℕ
area_word writable = pick writable 1 0

-- area, start and length
unfoldable pub part_words : Row → List ℕ
part_words row = area_word row.writable ∷ narrow_to 32 row.start ∷ narrow_to 32 row.length ∷ []

-- lent words after a part is put to their front: fewer than three stay as they were
unfoldable pub with_part : Row → List ℕ → List ℕ
with_part row words = pick (ltb (length words) 3) words (part_words row ++ drop 3 words)

unfoldable pub row_words : Row → List ℕ
row_words row = row.id ∷ area_word row.writable ∷ row.start ∷ row.length ∷ pick row.protected 1 0 ∷ []

-- ---- unpacking

-- an id above 255 is 255, which no sound directory has; so is each id in an area that is none
unfoldable pub id_in : (id area : ℕ) → ℕ
id_in id area = pick (ltb area 2) (narrow_to 8 id) 255

unfoldable pub row_at : List ℕ → ℕ → Row
row_at words at =
    record {
      id = id_in (get_or words at 0) (get_or words (at + 1) 0);
      writable = eqb (get_or words (at + 1) 0) 1;
      start = get_or words (at + 2) 0;
      length = get_or words (at + 3) 0;
      protected = not (eqb (get_or words (at + 4) 0) 0);
    }

unfoldable pub rows_in : List ℕ → List Row
rows_in words =
    pick (eqb (length words % 5) 0 && leb (length words / 5) 32)
    (items_from row_at 5 (length words / 5) words 0)
    (replicate 33 no_row)

-- ---- promises (proofs/RowLaws.antt proves each; `directory_in` cites them, and `put_part` the last)

-- up to 32 rows are what their words are
unfoldable pub UnpackingRows : Type 0
UnpackingRows =
    (rows : List Row) → length rows ≤ most_rows → All (λ (row : Row). row.id < 2 ^ 8) rows → rows_in (words_of row_words rows) ≡ rows

-- words that are not five for each of up to 32 are no sound directory, whatever the areas
unfoldable pub OtherRowsLength : Type 0
OtherRowsLength =
    (factory writable : ℕ) (words : List ℕ) → ((n : ℕ) → n ≤ most_rows → length words ≡ 5 * n → ⊥) → sound_directory factory writable (rows_in words) ≡ false

-- nor are those with an id above 255
unfoldable pub LargeId : Type 0
LargeId = (factory writable : ℕ) (words : List ℕ) (i : ℕ) → 2 ^ 8 ≤ get_or words (5 * i) 0 → sound_directory factory writable (rows_in words) ≡ false

-- or with an area that is neither 0 nor 1
unfoldable pub OtherArea : Type 0
OtherArea = (factory writable : ℕ) (words : List ℕ) (i : ℕ) → 2 ≤ get_or words (5 * i + 1) 0 → sound_directory factory writable (rows_in words) ≡ false

-- a part whose start and length are words is put as it is, and the words behind it stay
unfoldable pub PartPut : Type 0
PartPut =
    (row : Row) (words : List ℕ) → row.start < 2 ^ 32 → row.length < 2 ^ 32 → 3 ≤ length words
    → with_part row words ≡ area_word row.writable ∷ row.start ∷ row.length ∷ drop 3 words

-- Laws of attribute rows as words: what is packed reads back, and words that are no rows are no sound directory. Assumes nothing.
use mathlib.Core.Path.{◌≡◌, refl, ap, sym, ◌∙◌}
use mathlib.Core.Bool.{Bool, true, false}
use mathlib.Core.List.{List, ◌++◌}
use Prim.Native.Nat.{ℕ, suc, ◌+◌, ◌*◌, ◌-◌, ◌/◌, ◌%◌, ◌<◌, ◌≤◌, ◌^◌}
use native.Mathlib.Omega.{arith}
use lib.ListN.{length, length-set, get_or, set, replicate}
use lib.Dec.{eqb, ltb, leb}
use lib.Seq.{sets, sets-eq, get_or-append-add, get_or-append_seam}
use mir.Val.{bool_byte}
use borrow.Author.Tests.{eq-eqb, ne_eqb, lt-ltb, le-ltb, le-leb, lt-leb, eqb-true, eqb-false, leb-true, leb-false}
use Rattle.refusals.proofs.Tests.{by_test, by_cases, and_left, and_right}
use Rattle.directory.specs.declared.Row.{Row}
use Rattle.directory.specs.declared.Directory.{Directory}
use Rattle.directory.specs.Directory.{no_row, row_sound, each_sound, all_apart, sound_directory}
use Rattle.directory.specs.Gathered.{no_directory, with_row, gathered_from, gathered, list_of}
use Rattle.directory.proofs.Looking.{with_more, gathered_few}
use Rattle.words.specs.Items.{words_of, items_from}
use Rattle.words.specs.Word.{narrow_to}
use Rattle.words.specs.RowWords.{area_word, part_words, with_part, row_words, id_in, row_at, rows_in, UnpackingRows, OtherRowsLength, LargeId, OtherArea, PartPut}
use Rattle.words.proofs.ItemLaws.{length_items, length_words, items_back, one_unsound}
use Rattle.words.proofs.Words.{narrow_small, narrow_above, word_inside}

-- ---- a part

module _ (row : Row) (words : List ℕ) where
  pub part_none : length words < 3 → words ≡ with_part row words
  unfolding with_part
  part_none h = simp (lt-ltb _ _ h)

  pub part_some : {after : List ℕ} → 3 ≤ length words → after ≡ sets words 0 (part_words row) → after ≡ with_part row words
  unfolding with_part part_words
  part_some h e = e ∙ sets-eq (part_words row) words 0 (omega arith) ∙ simp (le-ltb _ _ h)

-- `u32::from` of a test is its word
pub area_is : (writable : Bool) → bool_byte writable ≡ area_word writable
area_is true = refl
area_is false = refl

pub part_put : PartPut
unfolding PartPut with_part part_words
part_put row words s n h = simp (le-ltb _ _ h, ← narrow_small 32 row.start s, ← narrow_small 32 row.length n)

-- ---- a row

pub id_none : (id area : ℕ) → 2 ≤ area → 255 ≡ id_in id area
unfolding id_in
id_none id area h = simp (le-ltb _ _ h)

-- ---- rows

module _ (words : List ℕ) (n : ℕ) where
  -- the first i of 32 rows are in: with those from i on they are the n rows
  pub record RowsIn (rows : List Row) (i : ℕ) : Type 0 where
    pub long : length rows ≡ 32
    pub left : gathered_from (record { rows = rows; count = i }) (items_from row_at 5 (n - i) words (5 * i)) ≡ gathered (items_from row_at 5 n words 0)

  pub rows_first : {d : Directory} → d ≡ no_directory → RowsIn d.rows 0
  rows_first {d} e =
      let m : n - 0 ≡ n = omega arith in
      record {
        long = ap (λ (d : Directory). length d.rows) e;
        left =
            ap (λ (k : ℕ). gathered_from (record { rows = d.rows; count = 0 }) (items_from row_at 5 k words 0)) m
            ∙ ap (λ (d : Directory). gathered_from (record { rows = d.rows; count = 0 }) (items_from row_at 5 n words 0)) e;
      }

  pub rows_next : (rows : List Row) (i : ℕ) {row : Row} → i < n → n ≤ 32 → row ≡ row_at words (5 * i) → RowsIn rows i → RowsIn (set rows i row) (i + 1)
  unfolding gathered_from items_from
  rows_next rows i {row} h few r l =
      let m : n - i ≡ suc (n - (i + 1)) = omega arith in
      let f : 5 * (i + 1) ≡ 5 * i + 5 = omega arith in
      let d : Directory = record { rows = rows; count = i } in
      record {
        long = length-set rows i row ∙ l.long;
        left =
            ap (λ (k : ℕ). gathered_from (record { rows = set rows i row; count = i + 1 }) (items_from row_at 5 (n - (i + 1)) words k)) f
            ∙ ap (λ (d : Directory). gathered_from d (items_from row_at 5 (n - (i + 1)) words (5 * i + 5))) (sym (with_more d row (omega arith)) ∙ ap (with_row d) r)
            ∙ (rw m at l.left);
      }

  pub rows_all : (rows : List Row) (i : ℕ) → i ≡ n → RowsIn rows i → record { rows = rows; count = n } ≡ gathered (items_from row_at 5 n words 0)
  unfolding gathered_from items_from
  rows_all rows i e l =
      let z : n - i ≡ 0 = omega arith in
      ap (λ (k : ℕ). record { rows = rows; count = k }) (sym e) ∙ (rw z at l.left)

-- ---- the rows that words are

module _ (words : List ℕ) where
  pub left_over : (length words % 5 ≡ 0 → ⊥) → replicate 33 no_row ≡ rows_in words
  unfolding rows_in
  left_over n = simp (ne_eqb _ _ n)

  pub too_many : length words % 5 ≡ 0 → 32 < length words / 5 → replicate 33 no_row ≡ rows_in words
  unfolding rows_in
  too_many z h = simp (eq-eqb _ _ z, lt-leb _ _ h)

  rows_are : (n : ℕ) → n ≤ 32 → length words ≡ 5 * n → rows_in words ≡ items_from row_at 5 n words 0
  unfolding rows_in
  rows_are n h e =
      let z : length words % 5 ≡ 0 = omega arith in
      let k : length words / 5 ≡ n = omega arith in
      simp (eq-eqb _ _ z, k, le-leb _ _ h)

  pub rows_read : {d : Directory} → length words % 5 ≡ 0 → length words / 5 ≤ 32 → d ≡ gathered (items_from row_at 5 (length words / 5) words 0) → list_of d ≡ rows_in words
  unfolding rows_in
  rows_read z h e =
      simp (eq-eqb _ _ z, le-leb _ _ h)
      (ap list_of e ∙ gathered_few (items_from row_at 5 (length words / 5) words 0) (rw (length_items row_at 5 (length words / 5) words 0) h))

-- ---- what is refused

module _ (f w : ℕ) (words : List ℕ) where
  -- words that are no rows are 33
  by_count : ((n : ℕ) → n ≤ 32 → length words ≡ 5 * n → sound_directory f w (rows_in words) ≡ false) → sound_directory f w (rows_in words) ≡ false
  unfolding sound_directory
  by_count few =
      by_cases (eqb (length words % 5) 0)
      (λ z.
      by_cases (leb (length words / 5) 32) (λ h. few (length words / 5) (leb-true _ _ h) (omega (arith, eqb-true (length words % 5) 0 z)))
      (λ h. simp (← too_many words (eqb-true (length words % 5) 0 z) (leb-false (length words / 5) 32 h))))
      (λ z. simp (← left_over words (eqb-false (length words % 5) 0 z)))

  unsound_at : (n i : ℕ) → n ≤ 32 → length words ≡ 5 * n → i < n → leb (id_in (get_or words (5 * i) 0) (get_or words (5 * i + 1) 0)) 127 ≡ false
      → sound_directory f w (rows_in words) ≡ false
  unfolding sound_directory each_sound row_sound row_at
  unsound_at n i h e l u =
      and_right (leb (length (rows_in words)) 32)
      (and_left (all_apart (rows_in words))
      (ap (each_sound f w) (rows_are words n h e)
      ∙ one_unsound row_at 5 (row_sound f w) (each_sound f w) (λ x xs. and_left (each_sound f w xs)) (λ x xs. and_right (row_sound f w x)) i n words l (and_left _ u)))

pub other_rows_length : OtherRowsLength
unfolding OtherRowsLength
other_rows_length f w words other = by_count f w words (λ n h e. absurd (other n h e))

pub large_id : LargeId
unfolding LargeId id_in
large_id f w words i h =
    by_count f w words
    (λ n few e.
    unsound_at f w words n i few e (omega (arith, word_inside words (5 * i) (omega arith)))
    (by_test (λ (id : ℕ). leb id 127 ≡ false) (ltb (get_or words (5 * i + 1) 0) 2) (λ t. narrow_above 127 (get_or words (5 * i) 0) (omega arith) h) (λ t. refl)))

pub other_area : OtherArea
unfolding OtherArea
other_area f w words i h =
    by_count f w words
    (λ n few e.
    unsound_at f w words n i few e (omega (arith, word_inside words (5 * i + 1) (omega arith)))
    (ap (λ (id : ℕ). leb id 127) (sym (id_none (get_or words (5 * i) 0) (get_or words (5 * i + 1) 0) h))))

-- ---- reading back

row_again : (p rest : List ℕ) (id start n : ℕ) (writable protected : Bool) → id < 256
    → let row : Row = record { id = id; writable = writable; start = start; length = n; protected = protected } in
    row_at (p ++ (row_words row ++ rest)) (length p) ≡ row
unfolding row_at row_words id_in
row_again p rest id start n true true h = simp (get_or-append-add, get_or-append_seam, ← narrow_small 8 id h)
row_again p rest id start n true false h = simp (get_or-append-add, get_or-append_seam, ← narrow_small 8 id h)
row_again p rest id start n false true h = simp (get_or-append-add, get_or-append_seam, ← narrow_small 8 id h)
row_again p rest id start n false false h = simp (get_or-append-add, get_or-append_seam, ← narrow_small 8 id h)

five : (row : Row) → length (row_words row) ≡ 5
unfolding row_words
five row = refl

pub unpacking_rows : UnpackingRows
unfolding UnpackingRows
unpacking_rows rows h f =
    rows_are (words_of row_words rows) (length rows) h (length_words row_words 5 five rows)
    ∙ items_back row_words 5 five row_at (λ (row : Row). row.id < 2 ^ 8)
    (λ p row rest fits. row_again p rest row.id row.start row.length row.writable row.protected fits) rows f

pub id_narrow : (id area : ℕ) {n : ℕ} → area < 2 → n ≡ narrow_to 8 id → n ≡ id_in id area
unfolding id_in
id_narrow id area h e = e ∙ simp (lt-ltb _ _ h)

-- Application entries one after the other. No public contract cites this.
-- Assumes nothing.
use Rattle.std.specs.Prelude.{ℕ, ◌+◌, ◌≤◌, ◌≡◌, List, [], ◌∷◌, Bool, true, ◌&&◌, length, take, drop, leb}
use Rattle.apdu_format.specs.Limits.{most_rows}
use Rattle.apdu_format.specs.Component.{entry_count}
use Rattle.apdu_format.specs.Rules.{when}
use Rattle.apdu.specs.declared.lists.Row.{Row}
use Rattle.apdu.specs.declared.lists.Entry.{Entry}
use Rattle.apdu.specs.Values.{num, if, entries_values, list_values, rows_of}
use Rattle.apdu_writing.specs.declared.quill.Quill.{Quill}
use Rattle.apdu_writing.specs.declared.entries.EntriesPut.{EntriesPut}
use Rattle.apdu.specs.Sound.{sound_if, entries_sound, count_if}
use Rattle.apdu_writing.specs.Quill.{Puts}

-- a list of the n entries from one on is written, and so many rows are used
pub record Listed (s : List ℕ) (es : List Entry) (from n : ℕ) (rs : List Row) (first : ℕ) (c : Quill) (r : EntriesPut) (o o' : List ℕ) : Type 0 where
  pub so : Puts (entries_sound (length s) (take n (drop from es)) (drop first rs)) (entry_count ∷ []) c r.quill o o' (num n ∷ entries_values s (take n (drop from es)) (drop first rs))
  pub used : r.quill.ok ≡ true → r.used ≡ first + rows_of (take n (drop from es))
  pub few : r.quill.ok ≡ true → n ≤ 16
  pub near : r.used ≤ first + 4080

-- the rows of a list of n entries and, if p, of the k entries that follow
abbrev pub list_rows : List Entry → ℕ → Bool → ℕ → ℕ
list_rows es n p k = rows_of (take n es) + count_if p (rows_of (take k (drop n es)))

-- a list of n entries is written, and behind it, if p, one of the k entries that follow, with the rows that follow; together they keep the limit of rows
pub record Lists (s : List ℕ) (es : List Entry) (n : ℕ) (p : Bool) (k : ℕ) (rs : List Row) (c r : Quill) (o o' : List ℕ) : Type 0 where
  pub between : Quill
  pub half : List ℕ
  pub first : Puts (entries_sound (length s) (take n es) rs) (entry_count ∷ []) c between o half (list_values s n (take n es) rs)
  pub second : Puts (sound_if p (entries_sound (length s) (take k (drop n es)) (drop (rows_of (take n es)) rs)) && leb (list_rows es n p k) most_rows) (when p (entry_count ∷ [])) between r half o' (if p (list_values s k (take k (drop n es)) (drop (rows_of (take n es)) rs)))

-- Entries and rows as they are stored, and application lists of them.
-- Assumes nothing.
use Prim.Native.Nat.{ℕ, zero, suc, ◌+◌, ◌≤◌}
use mathlib.Core.Path.{◌≡◌}
use mathlib.Core.List.{List, [], ◌∷◌}
use mathlib.Core.Bool.{Bool, true, false}
use lib.ListN.{length, get_or, take}
use Rattle.apdu_format.specs.Component.{entry_count, entry}
use Rattle.apdu_format.specs.Rules.{when, times}
use Rattle.apdu.specs.declared.lists.Entry.{Entry}
use Rattle.apdu.specs.Values.{num_if, entries_values, rows_of, empty_entry}
use Rattle.apdu.specs.Tidy.{EntriesTidy, entry_tidy}
use Rattle.apdu.specs.Sound.{entries_sound}
use Rattle.apdu_reading.specs.declared.cursor.Cursor.{Cursor}
use Rattle.apdu_reading.specs.declared.rows.Rows.{Rows}
use Rattle.apdu_reading.specs.Cursor.{ReadsTo}
use Rattle.apdu_reading.specs.Lists.{Leads, between}
use Rattle.apdu_reading.specs.Applications.{Open, Grown}

-- the entries and rows read so far
pub record Applications : Type 0 where
  pub rows : Rows
  pub entries : List Entry

-- entries from place base on
pub record StoreReady (base : ℕ) (a : Applications) : Type 0 where
  pub free : Open a.rows
  pub rest : EntriesTidy base a.entries
  pub long : length a.entries ≡ 32
  pub each : a.rows.cursor.fault ≡ 0 → (j : ℕ) → entry_tidy (get_or a.entries j empty_entry)

pub record Stored (s : List ℕ) (base : ℕ) (a : Applications) (n : ℕ) (r : Applications) : Type 0 where
  pub reads : ReadsTo s (times n (entry ∷ [])) a.rows.cursor r.rows.cursor
      (entries_values s (between base (base + n) r.entries) (between a.rows.used r.rows.used r.rows.rows))
  pub grown : Grown a.rows r.rows
  pub sound : r.rows.cursor.fault ≡ 0
      → entries_sound (length s) (between base (base + n) r.entries) (between a.rows.used r.rows.used r.rows.rows) ≡ true
  pub ready : StoreReady (base + n) r
  pub rows : a.rows.used + rows_of (between base (base + n) r.entries) ≡ r.rows.used
  pub kept : take base r.entries ≡ take base a.entries

-- behind the count of a list
abbrev pub counted : Applications → Cursor → Applications
counted a d = record { rows = record { cursor = d; used = a.rows.used; rows = a.rows.rows }; entries = a.entries }

-- an application list of n entries, if it is there, stored behind those of a
pub record Listed (s : List ℕ) (p : Bool) (base : ℕ) (a : Applications) (n : ℕ) (r : Applications) : Type 0 where
  pub begin : Cursor
  pub leads : Leads s (when p (entry_count ∷ [])) a.rows.cursor (times n (entry ∷ [])) begin (num_if p n)
  pub small : n ≤ 16
  pub absent : p ≡ false → n ≡ 0
  pub stored : Stored s base (counted a begin) n r

-- both lists, of which the second is there if p says so
pub record Both (s : List ℕ) (p : Bool) (a : Applications) (mandatory others : ℕ) (r : Applications) : Type 0 where
  pub list : Applications
  pub first : Listed s true 0 a mandatory list
  pub second : Listed s p mandatory list others r

-- what is read after so many rounds: nothing, the first list, both
unfoldable pub Upto : List ℕ → Bool → Applications → ℕ → ℕ → ℕ → Applications → Type 0
Upto s p a zero m o r = (m + o ≡ 0) × StoreReady 0 r × (r ≡ a)
Upto s p a (suc zero) m o r = (m ≡ 0) × Listed s true 0 a o r
Upto s p a (suc (suc k)) m o r = Both s p a m o r

-- Application entries as they are read and stored. No public contract cites these.
-- Assumes nothing.
use Rattle.std.specs.Prelude.{ℕ, ◌+◌, ◌≤◌, ◌≡◌, List, [], ◌∷◌, ◌++◌, Bool, true, false, length, take, drop}
use Rattle.apdu_format.specs.Component.{Component, entry_count, entry, class}
use Rattle.apdu_format.specs.Reading.{Value, fields}
use Rattle.apdu_format.specs.Rules.{when, times}
use Rattle.apdu.specs.declared.lists.Row.{Row}
use Rattle.apdu.specs.declared.lists.Entry.{Entry}
use Rattle.apdu.specs.declared.lists.Lists.{Lists}
use Rattle.apdu.specs.Values.{bit_of, num_if, if, entry_values, entry_rows, rows_of, list_values}
use Rattle.apdu.specs.Tidy.{Absent, start_tidy, RowsTidy, entry_tidy, ListsTidy}
use Rattle.apdu.specs.Sound.{part_fits, nested, entry_sound, entries_sound}
use Rattle.apdu_reading.specs.declared.cursor.Cursor.{Cursor}
use Rattle.apdu_reading.specs.declared.rows.Rows.{Rows}
use Rattle.apdu_reading.specs.declared.applications.EntryHead.{EntryHead}
use Rattle.apdu_reading.specs.declared.applications.EntryRead.{EntryRead}
use Rattle.apdu_reading.specs.declared.link.Configuration.{Configuration}
use Rattle.apdu_reading.specs.Cursor.{ReadsTo}
use Rattle.apdu.specs.RowCounters.{row}
use Rattle.apdu_reading.specs.Lists.{Leads, between}

-- an entry up to its rows
pub record EntryOpens (s : List ℕ) (c : Cursor) (r : EntryHead) : Type 0 where
  pub leads : Leads s (entry ∷ []) c (times r.due (row 2)) r.cursor (entry_values s r.entry [])
  pub room : r.cursor.fault ≡ 0 → r.cursor.room + r.due ≡ c.room
  pub clean : r.cursor.fault ≡ 0 → c.fault ≡ 0
  pub parts : r.cursor.fault ≡ 0 → part_fits (length s) r.entry.kind r.entry.n r.entry.start ≡ true
  pub none : r.entry.rows ≡ 0
  pub counts : r.due ≡ nested r.entry.kind r.entry.n
  pub eid : Absent r.entry.has_eid (r.entry.eid ∷ [])
  pub parameter : Absent r.entry.has_parameter (r.entry.kind ∷ r.entry.n ∷ r.entry.start ∷ r.due ∷ [])
  pub tidy : start_tidy r.entry.kind r.entry.start

-- rows behind which more may be stored
pub record Open (r : Rows) : Type 0 where
  pub sum : r.cursor.fault ≡ 0 → r.cursor.room + r.used ≡ 32
  pub rest : RowsTidy r.used r.rows
  pub long : length r.rows ≡ 32
  pub few : r.used ≤ 32

-- from r to q rows were stored behind those of r
pub record Grown (r q : Rows) : Type 0 where
  pub free : Open q
  pub more : r.used ≤ q.used
  pub kept : take r.used q.rows ≡ take r.used r.rows

-- an entry with its rows
pub record EntryWhole (s : List ℕ) (r : Rows) (q : EntryRead) : Type 0 where
  pub reads : ReadsTo s (entry ∷ []) r.cursor q.rows.cursor (entry_values s q.entry (between r.used q.rows.used q.rows.rows))
  pub grown : Grown r q.rows
  pub rows : r.used + entry_rows q.entry ≡ q.rows.used
  pub sound : q.rows.cursor.fault ≡ 0 → entry_sound (length s) q.entry (between r.used q.rows.used q.rows.rows) ≡ true
  pub tidy : q.rows.cursor.fault ≡ 0 → entry_tidy q.entry

-- the count of an application list, if it is there
pub record CountMaybe (s : List ℕ) (p : Bool) (c r : Cursor) : Type 0 where
  pub leads : Leads s (when p (entry_count ∷ [])) c (times r.value (entry ∷ [])) r (num_if p r.value)
  pub room : r.room ≡ c.room
  pub small : r.value ≤ 16
  pub clean : r.fault ≡ 0 → c.fault ≡ 0
  pub absent : p ≡ false → r.value ≡ 0

-- the entries of the first list, those of the second, and the rows of the second
abbrev pub first_entries : ℕ → Lists → List Entry
first_entries m l = take m l.entries

abbrev pub other_entries : ℕ → ℕ → Lists → List Entry
other_entries m o l = take o (drop m l.entries)

abbrev pub other_rows : ℕ → Lists → List Row
other_rows m l = drop (rows_of (first_entries m l)) l.rows

-- the application lists of a message, of m entries and of o, from c to e; the second is there if p says so; with whatever is read behind them
pub record ListsWhole (s : List ℕ) (p : Bool) (c : Cursor) (m o : ℕ) (e : Cursor) (l : Lists) : Type 0 where
  pub reads : {is : List Component} {q : Cursor} {vs : List Value} → ReadsTo s is e q vs
      → ReadsTo s (entry_count ∷ (when p (entry_count ∷ []) ++ is)) c q
      (list_values s m (first_entries m l) l.rows ++ (if p (list_values s o (other_entries m o l) (other_rows m l)) ++ vs))
  pub first : e.fault ≡ 0 → entries_sound (length s) (first_entries m l) (take (rows_of (first_entries m l)) l.rows) ≡ true
  pub second : e.fault ≡ 0 → entries_sound (length s) (other_entries m o l) (other_rows m l) ≡ true
  pub tidy : e.fault ≡ 0 → ListsTidy (m + o) l.entries l.rows
  pub absent : p ≡ false → o ≡ 0
  pub few : rows_of (first_entries m l) + rows_of (other_entries m o l) ≤ 32
  pub rows : length l.rows ≡ 32
  pub entries : length l.entries ≡ 32

-- the configuration of a VST
pub record ConfigurationRead (s : List ℕ) (c : Cursor) (r : Configuration) : Type 0 where
  pub reads : ReadsTo s (class ∷ []) c r.cursor
      (fields (bit_of r.has_status ∷ r.class ∷ []) ∷ fields (r.maker ∷ []) ∷ if r.has_status (fields (r.status ∷ []) ∷ []))
  pub absent : Absent r.has_status (r.status ∷ [])

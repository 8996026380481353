-- Rows and entries as they are stored. No public contract cites these.
-- Assumes nothing.
use Rattle.std.specs.Prelude.{ℕ, ◌+◌, ◌≤◌, ◌≡◌, List, ◌++◌, true, length, take, drop}
use Rattle.bits.specs.Bits.{bits}
use Rattle.apdu_format.specs.Component.{Component}
use Rattle.apdu_format.specs.Reading.{Value, runs}
use Rattle.apdu.specs.Values.{rows_values}
use Rattle.apdu.specs.Tidy.{RowsTidy}
use Rattle.apdu.specs.Sound.{rows_sound}
use Rattle.apdu_reading.specs.declared.cursor.Cursor.{Cursor}
use Rattle.apdu.specs.declared.due.Due.{Due}
use Rattle.apdu_reading.specs.declared.rows.Rows.{Rows}
use Rattle.apdu_reading.specs.Cursor.{state_of, ReadsTo}
use Rattle.apdu.specs.RowCounters.{total, due_list}

-- reading the components is from c comes to reading js from r, with these values
pub record Leads (s : List ℕ) (is : List Component) (c : Cursor) (js : List Component) (r : Cursor) (vs : List Value) : Type 0 where
  pub so : (log : List Value) → runs (bits s) is (state_of c log) ≡ runs (bits s) js (state_of r (log ++ vs))

-- what stands from place k to place n
abbrev pub between : {A : Type 0} → ℕ → ℕ → List A → List A
between k n l = drop k (take n l)

-- the rows that are due and those that may be announced have their place behind the used ones
pub record Ready (o : Due) (r : Rows) : Type 0 where
  pub sum : r.cursor.fault ≡ 0 → total o + r.cursor.room + r.used ≡ 32
  pub rest : RowsTidy r.used r.rows
  pub long : length r.rows ≡ 32
  pub few : r.used ≤ 32

-- from r to q the due rows are read
pub record Filled (s : List ℕ) (o : Due) (r q : Rows) : Type 0 where
  pub reads : ReadsTo s (due_list o) r.cursor q.cursor (rows_values s (between r.used q.used q.rows))
  pub sum : q.cursor.fault ≡ 0 → q.cursor.room + q.used ≡ 32
  pub more : r.used ≤ q.used
  pub sound : q.cursor.fault ≡ 0 → rows_sound (length s) (total o) (between r.used q.used q.rows) ≡ true
  pub kept : take r.used q.rows ≡ take r.used r.rows
  pub rest : RowsTidy q.used q.rows
  pub long : length q.rows ≡ 32
  pub few : q.used ≤ 32

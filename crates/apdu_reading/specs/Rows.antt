-- Containers up to their rows, and the next row. No public contract cites these.
-- Assumes nothing.
use Rattle.std.specs.Prelude.{ℕ, suc, ◌+◌, ◌<◌, ◌≡◌, List, [], ◌∷◌, ◌++◌, true, length}
use Rattle.bits.specs.Bits.{bits}
use Rattle.apdu_format.specs.Component.{container}
use Rattle.apdu_format.specs.Rules.{times}
use Rattle.apdu_format.specs.Reading.{Value, runs}
use Rattle.apdu.specs.Values.{head_values, row_values}
use Rattle.apdu.specs.Tidy.{start_tidy, row_tidy}
use Rattle.apdu.specs.Sound.{part_fits, nested}
use Rattle.apdu.specs.RowCounters.{row, total, due_list}
use Rattle.apdu_reading.specs.declared.cursor.Cursor.{Cursor}
use Rattle.apdu_reading.specs.declared.container.Head.{Head}
use Rattle.apdu.specs.declared.due.Due.{Due}
use Rattle.apdu_reading.specs.declared.container.RowRead.{RowRead}
use Rattle.apdu_reading.specs.Cursor.{state_of}

-- a container is read up to its rows
pub record Opens (s : List ℕ) (depth : ℕ) (c : Cursor) (r : Head) : Type 0 where
  pub so : (log : List Value) → runs (bits s) (container depth ∷ []) (state_of c log)
      ≡ runs (bits s) (times (nested r.kind r.n) (row (suc depth))) (state_of r.cursor (log ++ head_values s r.kind r.n r.start))
  pub deep : 4 < depth → nested r.kind r.n ≡ 0
  pub room : r.cursor.fault ≡ 0 → r.cursor.room + nested r.kind r.n ≡ c.room
  pub small : (r.kind < 128) × (r.n < 128)
  pub clean : r.cursor.fault ≡ 0 → c.fault ≡ 0
  pub parts : r.cursor.fault ≡ 0 → part_fits (length s) r.kind r.n r.start ≡ true
  pub tidy : start_tidy r.kind r.start

-- one row is read
pub record Next (s : List ℕ) (c : Cursor) (o : Due) (r : RowRead) : Type 0 where
  pub so : (log : List Value) → runs (bits s) (due_list o) (state_of c log) ≡ runs (bits s) (due_list r.due) (state_of r.cursor (log ++ row_values s r.row))
  pub sums : r.cursor.fault ≡ 0 → total r.due + r.cursor.room + 1 ≡ total o + c.room
  pub counts : total r.due + 1 ≡ total o + nested r.row.kind r.row.n
  pub parts : r.cursor.fault ≡ 0 → part_fits (length s) r.row.kind r.row.n r.row.start ≡ true
  pub tidy : row_tidy r.row

-- Components that may be absent. No public contract cites these.
-- Assumes nothing.
use Rattle.std.specs.Prelude.{ℕ, ◌+◌, ◌<◌, ◌≡◌, List, [], ◌∷◌, Bool, true, false, length}
use Rattle.apdu_format.specs.Component.{Component, row_count, container}
use Rattle.apdu_format.specs.Rules.{when, times}
use Rattle.apdu_format.specs.Reading.{Value}
use Rattle.apdu.specs.Values.{num_if, if, head_values}
use Rattle.apdu.specs.Tidy.{start_tidy}
use Rattle.apdu.specs.Sound.{nested, part_fits}
use Rattle.apdu_reading.specs.declared.cursor.Cursor.{Cursor}
use Rattle.apdu_reading.specs.declared.container.Head.{Head}
use Rattle.apdu_reading.specs.Cursor.{ReadsTo}
use Rattle.apdu.specs.RowCounters.{row}
use Rattle.apdu_reading.specs.Lists.{Leads}

-- a component that announces no rows, if p says that it is there
pub record Maybe (s : List ℕ) (p : Bool) (is : List Component) (c r : Cursor) (vs : List Value) : Type 0 where
  pub reads : ReadsTo s (when p is) c r vs
  pub small : r.value < 128
  pub room : r.room ≡ c.room
  pub absent : p ≡ false → (r.value ≡ 0) × (r.start ≡ 0)

-- a container up to its rows
pub record HeadMaybe (s : List ℕ) (p : Bool) (c : Cursor) (r : Head) : Type 0 where
  pub leads : Leads s (when p (container 1 ∷ [])) c (times (nested r.kind r.n) (row 2)) r.cursor (if p (head_values s r.kind r.n r.start))
  pub room : r.cursor.fault ≡ 0 → r.cursor.room + nested r.kind r.n ≡ c.room
  pub small : (r.kind < 128) × (r.n < 128)
  pub clean : r.cursor.fault ≡ 0 → c.fault ≡ 0
  pub parts : r.cursor.fault ≡ 0 → part_fits (length s) r.kind r.n r.start ≡ true
  pub absent : p ≡ false → (r.kind ≡ 0) × (r.n ≡ 0) × (r.start ≡ 0)
  pub tidy : start_tidy r.kind r.start

-- an attribute list up to its rows
pub record AttributesMaybe (s : List ℕ) (p : Bool) (c r : Cursor) : Type 0 where
  pub leads : Leads s (when p (row_count 1 ∷ [])) c (times r.value (row 1)) r (num_if p r.value)
  pub room : r.fault ≡ 0 → r.room + r.value ≡ c.room
  pub small : r.value < 128
  pub absent : p ≡ false → r.value ≡ 0

-- The code's cursor as a state of the definitions' reader, and what its functions compute. No public contract cites these.
-- Assumes nothing.
use Rattle.std.specs.Prelude.{ℕ, ◌+◌, ◌-◌, ◌*◌, ◌/◌, ◌≡◌, List, [], ◌++◌, Bool, true, false, length, ltb, eqb}
use Rattle.refusals.specs.Check.{pick}
use Rattle.bits.specs.Bits.{bits, read_field}
use Rattle.apdu_format.specs.Component.{Component}
use Rattle.apdu_format.specs.Rules.{shape}
use Rattle.apdu_format.specs.Reading.{Value, need, State, step, runs}
use Rattle.bits.specs.Strings.{is_inside}
use Rattle.apdu.specs.Sound.{sound_if}
use Rattle.apdu_reading.specs.declared.cursor.Cursor.{Cursor}

abbrev pub cursor : ℕ → ℕ → ℕ → ℕ → ℕ → ℕ → ℕ → Cursor
cursor at begun room fault position value start =
    record { at = at; begun = begun; room = room; fault = fault; position = position; value = value; start = start }

-- a cursor with what was read so far, which counts only while there is no fault
unfoldable pub state_of : Cursor → List Value → State
state_of c log = record { at = c.at; begun = c.begun; room = c.room; fault = c.fault; position = c.position; log = pick (eqb c.fault 0) log [] }

-- the cursor after one component
unfoldable pub component : List ℕ → Component → Cursor → Cursor
component s i c =
    let d = (step (bits s) i (state_of c [])).state in
    cursor d.at d.begun d.room d.fault d.position (pick (eqb d.fault 0) (read_field s c.at (need (shape i))) 0) 0

-- from c to r the reader reads the components is, with these values
pub record ReadsTo (s : List ℕ) (is : List Component) (c r : Cursor) (vs : List Value) : Type 0 where
  pub so : (log : List Value) → runs (bits s) is (state_of c log) ≡ state_of r (log ++ vs)

-- the part that was read, if p says that it is there, lies inside the octets
pub record Inside (s : List ℕ) (p : Bool) (r : Cursor) : Type 0 where
  pub so : r.fault ≡ 0 → sound_if p (is_inside (length s) r.start r.value) ≡ true

-- ---- what the cursor's functions compute

unfoldable pub judged_by : Cursor → ℕ → Bool → Cursor → Cursor
judged_by c k wrong d = pick (eqb d.fault 0) (pick wrong (cursor c.at c.begun c.room k (d.begun / 8) 0 0) d) d

unfoldable pub piece_of : List ℕ → ℕ → Bool → Cursor → Cursor
piece_of s w begins c =
    pick (eqb c.fault 0)
    (pick (ltb (8 * length s) (c.at + w))
    (cursor c.at c.begun c.room 13 (length s) 0 0)
    (cursor (c.at + w) (pick begins c.at c.begun) c.room 0 0 (read_field s c.at w) 0))
    (cursor c.at c.begun c.room c.fault c.position 0 0)

unfoldable pub spent : Cursor → Cursor
spent c = pick (eqb c.fault 0) (pick (ltb c.room c.value) c (cursor c.at c.begun (c.room - c.value) 0 c.position c.value c.start)) c

unfoldable pub marked_at : Cursor → ℕ → ℕ → Cursor
marked_at c value start = cursor c.at c.begun c.room c.fault c.position value start

-- the cursor behind as many octets as its value says
abbrev pub skipped : List ℕ → Cursor → Cursor
skipped s c = marked_at (piece_of s (8 * c.value) false c) c.value c.at

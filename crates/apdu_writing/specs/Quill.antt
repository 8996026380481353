-- The code's quill as a pen of the definitions' writer, and what its functions compute. No public contract cites these.
-- Assumes nothing.
use Rattle.std.specs.Prelude.{ℕ, ◌+◌, ◌-◌, ◌*◌, ◌<◌, ◌≤◌, ◌≡◌, List, [], ◌++◌, Bool, true, false, ◌&&◌, ◌⊎◌, length, ltb, leb}
use Rattle.refusals.specs.Check.{pick}
use Rattle.bits.specs.Bits.{Bits, Octets, put_bits}
use Rattle.apdu_format.specs.Limits.{most_rows}
use Rattle.apdu_format.specs.Component.{Component}
use Rattle.apdu_format.specs.Table.{layout_of}
use Rattle.apdu_format.specs.Rules.{known_kind}
use Rattle.apdu_format.specs.Reading.{Value, levels}
use Rattle.apdu_format.specs.Writing.{Pen, puts}
use Rattle.apdu_writing.specs.declared.quill.Quill.{Quill}

abbrev pub quill : ℕ → ℕ → Bool → Quill
quill at room ok = record { at = at; room = room; ok = ok }

-- ---- what the quill's functions compute

-- places are octets
abbrev pub far : ℕ
far = 4096

-- a place, or the first that no message reaches
unfoldable pub least : ℕ → ℕ
least n = pick (ltb n far) n far

-- the quill behind k octets, if they are in range
unfoldable pub behind : ℕ → Bool → Quill → Quill
behind k fine c = quill (pick (c.ok && fine) (least (c.at + k)) c.at) c.room (c.ok && fine)

-- from c to r: the output o becomes x if it is so, and stays otherwise
pub record Put (k : ℕ) (fine : Bool) (c r : Quill) (x o o' : List ℕ) : Type 0 where
  pub is : r ≡ behind k fine c
  pub out : o' ≡ pick (c.ok && fine) x o

abbrev pub halted : Quill → Quill
halted c = quill c.at c.room false

-- the quill behind so many rows, which keep the limit or stop it
unfoldable pub limited : ℕ → Quill → Quill
limited n c = quill c.at c.room (c.ok && leb n most_rows)

unfoldable pub spent : ℕ → Quill → Quill
spent n c = quill c.at (c.room - n) c.ok

-- ---- what is written

abbrev pub pen_at : List Value → ℕ → List ℕ → Pen
pen_at vs room b = record { left = vs; room = room; ok = true; out = b }

-- the components is in turn, each with what it brings before the next
unfoldable pub writes : List Component → Pen → Pen
writes is p = puts levels is p

-- the values vs are in range and sound, and writing them, as the bits w of k octets, leaves the components js of is to write: the output o becomes o', the
-- quill c becomes r
pub record Goes (sound : Bool) (is js : List Component) (c r : Quill) (o o' : List ℕ) (vs : List Value) : Type 0 where
  pub holds : sound ≡ true
  pub came : c.ok ≡ true
  pub w : List ℕ
  pub small : Bits w
  pub so : (rest : List Value) (b : List ℕ) → writes is (pen_at (vs ++ rest) c.room b) ≡ writes js (pen_at rest r.room (b ++ w))
  pub k : ℕ
  pub whole : length w ≡ 8 * k
  pub to : least r.at ≡ least (c.at + k)
  pub ink : Octets o → c.at + k < far → c.at + k ≤ length o → o' ≡ put_bits o (8 * c.at) w

-- a value of vs is out of range
pub record Stops (is : List Component) (room : ℕ) (vs : List Value) : Type 0 where
  pub so : (rest : List Value) (b : List ℕ) → (writes is (pen_at (vs ++ rest) room b)).ok ≡ false

-- from c to r the writer writes the values vs, or finds that they are not sound or not in range
pub record Moves (sound : Bool) (is js : List Component) (c r : Quill) (o o' : List ℕ) (vs : List Value) : Type 0 where
  pub good : r.ok ≡ true → Goes sound is js c r o o' vs
  pub bad : r.ok ≡ false → c.ok ≡ true → (sound ≡ false) ⊎ Stops is c.room vs

-- and none of the components is is left
abbrev pub Puts : Bool → List Component → Quill → Quill → List ℕ → List ℕ → List Value → Type 0
Puts sound is c r o o' vs = Moves sound is [] c r o o' vs

-- a kind is known, and not too deep, where it is in range
pub record Known (d k : ℕ) (r : Quill) : Type 0 where
  pub kind : r.ok ≡ true → known_kind k ≡ true
  pub deep : r.ok ≡ true → d ≤ 4

-- a count is small where it is in range
pub record Few (n : ℕ) (r : Quill) : Type 0 where
  pub so : r.ok ≡ true → n ≤ 16

-- what holds of a choice that is laid out as choice j is
pub record As (k j : ℕ) (P : Type 0) : Type 0 where
  pub so : layout_of k ≡ layout_of j → P

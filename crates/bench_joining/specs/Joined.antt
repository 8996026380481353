-- A line of a recording, joined (01, "The bench program"): a line of 01's form is handed on as a fragment, and its columns show the call's answer; another
-- line goes no further.
-- Assumes nothing.
use Rattle.std.specs.Prelude.{ℕ, ◌≡◌, List, length, Result}
use Rattle.refusals.specs.Check.{Answer, refused, accepted}
use Rattle.refusals.specs.declared.Refusal.{Refusal}
use Rattle.slots.specs.declared.Table.{Table}
use Rattle.slots.specs.Slots.{held_for}
use Rattle.reassembly.specs.declared.Accepted.{Accepted}
use Rattle.reassembly.specs.Checks.{fragment_in}
use Rattle.reassembly.specs.Engine.{FragmentGives}
use Rattle.bench_lines.specs.Numerals.{octets_of}
use Rattle.bench_lines.specs.Line.{Fields, lsdu_text, read_line, lsdu_after}
use Rattle.bench_joining.specs.declared.Columns.{Columns}
use Rattle.bench_joining.specs.Columns.{numbered, columns_of, refused_with}

-- the columns of an answer to an LSDU, with the octets held for the pair by the table after the call; message number and octets of payload are 0 and 0
-- where its header is not valid
unfoldable pub columns_after : Result Accepted ℕ → (lid : ℕ) → (lsdu : List ℕ) → Table → Columns
columns_after answer lid lsdu after = columns_of answer (held_for after lid (fragment_in lsdu).number) (fragment_in lsdu).octets

-- an LSDU is handed on: the call's contract holds of some call, whose answer the columns r show
pub record LsduJoined (lid tick : ℕ) (lsdu : List ℕ) (table : Table) (store output : List ℕ) (r : Columns) (table' : Table) (store' output' : List ℕ) : Type 0 where
  pub call : Result Accepted Refusal
  pub gives : FragmentGives lid tick lsdu table store output call table' store' output'
  pub columns_are : r ≡ columns_after (numbered call) lid lsdu table'

-- a line that is not read: its refusal is shown, and nothing has changed
pub record LineRefused (number : ℕ) (table : Table) (store output : List ℕ) (r : Columns) (table' : Table) (store' output' : List ℕ) : Type 0 where
  pub table_is : table' ≡ table
  pub columns_are : r ≡ refused_with number 0
  pub store_is : store' ≡ store
  pub output_is : output' ≡ output

-- by what reading the line answers
unfoldable pub LineJoined : Answer Fields → (lsdu : List ℕ) → Table → (store output : List ℕ) → Columns → Table → (store' output' : List ℕ) → Type 0
LineJoined (accepted f) lsdu table store output r table' store' output' = LsduJoined f.lid f.tick lsdu table store output r table' store' output'
LineJoined (refused number) lsdu table store output r table' store' output' = LineRefused number table store output r table' store' output'

-- the octets that the line spells as its LSDU
unfoldable pub lsdu_of : List ℕ → List ℕ
lsdu_of line = octets_of (lsdu_text line)

-- the contract: the columns r, and the table, the lent buffer for the LSDU, the store and the output afterwards
pub record LineTaken (line : List ℕ) (table : Table) (lsdu store output : List ℕ) (r : Columns) (table' : Table) (lsdu' store' output' : List ℕ) : Type 0 where
  pub joined : LineJoined (read_line line (length lsdu)) (lsdu_of line) table store output r table' store' output'
  pub lsdu_is : lsdu' ≡ lsdu_after (read_line line (length lsdu)) line lsdu

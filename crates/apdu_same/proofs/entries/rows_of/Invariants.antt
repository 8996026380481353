-- The loop adds the rows of the entries before this one.
-- Assumes nothing.
use Prim.Native.Nat.{◌≤◌, ◌*◌}
use mathlib.Core.Path.{◌≡◌}
use lib.ListN.{take}
use Rattle.apdu.specs.Values.{rows_of}
use Rattle.apdu_same.proofs.entries.rows_of.Given as goal

abbrev pub invariant-loop-entry : goal.invariant-loop-entry
invariant-loop-entry l = (l.used ≤ 255 * l.entry-index) × (l.used ≡ rows_of (take l.entry-index l.entry-items))

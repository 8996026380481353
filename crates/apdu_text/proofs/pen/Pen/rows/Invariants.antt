-- The loop leaves the rows from the index on, under the lists that are open.
-- Assumes nothing.
use Prim.Native.Nat.{◌≤◌, ◌+◌}
use mathlib.Core.List.{[]}
use mathlib.Core.Path.{◌≡◌}
use lib.ListN.{length, drop}
use Rattle.apdu_text.specs.Parts.{opened, rows_text}
use Rattle.apdu_text.specs.Ink.{stack_of}
use Rattle.apdu_text.proofs.Inking.{Leaves}
use Rattle.apdu_text.proofs.pen.Pen.rows.Given as goal

abbrev pub invariant-loop-row : goal.invariant-loop-row
invariant-loop-row l = (l.depth ≤ l.row-index + 1) × (length l.due ≡ 33) × Leaves (rows_text l.s (opened l.n []) l.rows) l.initial.self (rows_text l.s (stack_of l.due l.depth) (drop l.row-index l.rows)) l.self

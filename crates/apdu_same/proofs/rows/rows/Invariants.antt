-- The loop compares row by row: what is left to compare after i rows is what was to compare.
-- Assumes nothing.
use mathlib.Core.Path.{◌≡◌}
use lib.ListN.{length, take, drop}
use Rattle.apdu_same.specs.Walk.{same_rows}
use Rattle.apdu_same.proofs.RowLists.{RowsLeft}
use Rattle.apdu_same.proofs.rows.rows.Given as goal

abbrev pub invariant-loop-i : goal.invariant-loop-i
invariant-loop-i l =
    (l.n ≡ length (take l.count (drop l.first l.table))) × (l.n ≡ length (take l.size (drop l.from l.other)))
    × (same_rows l.s (take l.count (drop l.first l.table)) l.t (take l.size (drop l.from l.other)) ≡ RowsLeft l.s (take l.count (drop l.first l.table)) l.t (take l.size (drop l.from l.other)) l.i)

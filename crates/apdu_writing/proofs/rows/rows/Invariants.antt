-- The loop has written the first i rows, and what they leave due.
-- Assumes nothing.
use mathlib.Core.Path.{◌≡◌}
use lib.ListN.{length, take, drop}
use Rattle.apdu_writing.proofs.RowLists.{Run}
use Rattle.apdu_writing.proofs.rows.rows.Given as goal

abbrev pub invariant-loop-i : goal.invariant-loop-i
invariant-loop-i l = (length l.out ≡ length l.initial.out) × Run l.lent (take l.count (drop l.first l.table)) l.i l.initial.u l.u l.initial.d l.d l.initial.out l.out

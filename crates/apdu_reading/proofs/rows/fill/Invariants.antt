-- After each turn the rows that were due are those stored and those still due.
-- Assumes nothing.
use Prim.Native.Nat.{◌≤◌, ◌-◌}
use lib.Dec.{eqb}
use Rattle.refusals.specs.Check.{pick}
use Rattle.apdu_reading.proofs.Fill.{Held}
use Rattle.apdu_reading.proofs.rows.fill.Given as goal

abbrev pub invariant-loop-due : goal.invariant-loop-due
invariant-loop-due l = Held l.s l.initial.cursor l.initial.due l.initial.used l.initial.rows l.cursor l.due l.used l.rows × (l.used ≤ 32)

abbrev pub decreases-loop-due : goal.decreases-loop-due
decreases-loop-due l = pick (eqb l.cursor.fault 0) (33 - l.used) 0

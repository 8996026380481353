-- 21 first; then the choice. Of a service, after each turn the rows that were due are those stored and those still due; with the number behind them the
-- message is read.
-- Assumes nothing.
use Prim.Native.Nat.{◌≤◌, ◌-◌}
use mathlib.Core.Path.{◌≡◌}
use lib.Dec.{eqb}
use Rattle.refusals.specs.Check.{pick}
use Rattle.apdu_reading.proofs.Fill.{Held}
use Rattle.apdu_reading.proofs.read.Given as goal

abbrev pub invariant-loop-due : goal.invariant-loop-due
invariant-loop-due l = Held l.s l.initial.cursor l.initial.due l.initial.used l.initial.lists.rows l.cursor l.due l.used l.lists.rows × (l.used ≤ 32) × (l.lists.entries ≡ l.initial.lists.entries)

abbrev pub decreases-loop-due : goal.decreases-loop-due
decreases-loop-due l = pick (eqb l.cursor.fault 0) (33 - l.used) 0

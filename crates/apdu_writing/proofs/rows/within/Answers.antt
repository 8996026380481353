-- The rows count where they are there.
-- Assumes nothing.
use native.Mathlib.Omega.{arith}
use Rattle.apdu_writing.proofs.Chains.{limited_fits, limited_breaks}
use Rattle.apdu_writing.proofs.rows.within.Goals.{else-p-via-then-p+else-rows-gt-MOST_ROWS, else-p-via-else-p}
use Rattle.apdu_writing.proofs.rows.within.Goals as goal

pub returns-then-rows-gt-MOST_ROWS : goal.returns-then-rows-gt-MOST_ROWS
returns-then-rows-gt-MOST_ROWS c = rw c.if-p.true (limited_breaks _ c.if-rows-gt-MOST_ROWS.true c.halt.ensures)

pub returns : goal.returns
returns c =
    elim c.else-p.branch [
      | else-p-via-then-p+else-rows-gt-MOST_ROWS w ↦ rw w.if-p.true (limited_fits w.if-rows-gt-MOST_ROWS.false)
      | else-p-via-else-p w ↦ rw w.if-p.false (limited_fits (omega arith))
    ]

-- By whether it is there.
-- Assumes nothing.
use Rattle.apdu_reading.proofs.Absent.{integer_maybe, absent_maybe}
use Rattle.apdu_reading.proofs.optional.integer_if.Goals as goal

pub returns-then-p : goal.returns-then-p
returns-then-p c = integer_maybe _ _ _ c.if-p.true c.integer.ensures

pub returns-else-p : goal.returns-else-p
returns-else-p c = absent_maybe _ _ _ _ _ c.if-p.false c.marked.ensures

-- By whether it is there.
-- Assumes nothing.
use Rattle.apdu_reading.proofs.StoreLaws.{count_there, count_absent}
use Rattle.apdu_reading.proofs.applications.count_if.Goals as goal

pub returns-then-p : goal.returns-then-p
returns-then-p c = count_there _ _ c.count.ensures.1 _ c.if-p.true c.count.ensures.2

pub returns-else-p : goal.returns-else-p
returns-else-p c = count_absent _ _ _ c.if-p.false c.marked.ensures

-- By whether it is there.
-- Assumes nothing.
use Rattle.apdu_reading.proofs.Absent.{attributes_there, attributes_absent}
use Rattle.apdu_reading.proofs.optional.attributes_if.Goals as goal

pub returns-then-p : goal.returns-then-p
returns-then-p c = attributes_there _ _ _ c.if-p.true c.row_count.ensures

pub returns-else-p : goal.returns-else-p
returns-else-p c = attributes_absent _ _ _ c.if-p.false c.marked.ensures

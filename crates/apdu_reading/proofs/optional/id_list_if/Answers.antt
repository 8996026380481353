-- By whether it is there.
-- Assumes nothing.
use Rattle.apdu_reading.proofs.Absent.{part_there, part_absent}
use Rattle.apdu_reading.proofs.optional.id_list_if.Goals as goal

pub returns-then-p : goal.returns-then-p
returns-then-p c = part_there _ _ _ _ c.if-p.true c.id_list.ensures

pub returns-else-p : goal.returns-else-p
returns-else-p c = part_absent _ _ _ _ _ c.if-p.false c.marked.ensures

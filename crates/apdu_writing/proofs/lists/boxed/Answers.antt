-- A container is its head and then its rows, if there are any.
-- Assumes nothing.
use Rattle.apdu_writing.proofs.Boxes.{box_by, box_closed, box_short, none_taken}
use Rattle.apdu_writing.proofs.lists.boxed.Goals as goal

pub returns-then-announced-eq0 : goal.returns-then-announced-eq0
returns-then-announced-eq0 c = box_closed _ _ _ _ _ c.announces-announced.ensures (none_taken _ _ c.if-count-eq0.true) c.head-d.ensures.0 c.if-announced-eq0.true

pub returns-then-count-eq0 : goal.returns-then-count-eq0
returns-then-count-eq0 c = box_short _ _ _ _ _ c.announces-announced.ensures (none_taken _ _ c.if-count-eq0.true) c.head-d.ensures.0 c.if-announced-eq0.false c.halt.ensures

pub returns : goal.returns
returns c = box_by _ _ _ _ _ c.announces-announced.ensures c.head-d.ensures.0 c.rows.ensures

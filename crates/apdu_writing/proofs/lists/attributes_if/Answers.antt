-- It is written or passed over.
-- Assumes nothing.
use Rattle.apdu_writing.proofs.Components.{there_sound, absent_sound}
use Rattle.apdu_writing.proofs.lists.attributes_if.Goals as goal

pub returns-then-p : goal.returns-then-p
returns-then-p c = there_sound _ c.if-p.true c.attributes.ensures

pub returns : goal.returns
returns c = absent_sound _ _ _ _ _ c.if-p.false _

-- It is there or not.
-- Assumes nothing.
use Rattle.apdu_text.proofs.Inking.{when_absent}
use Rattle.apdu_text.proofs.pen.Pen.string_if.Goals as goal

pub returns-else-is : goal.returns-else-is
returns-else-is c = when_absent _ _ c.if-is.false

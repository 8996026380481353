-- It is there or not.
-- Assumes nothing.
use Rattle.apdu_text.specs.Parts.{attribute_rows}
use Rattle.apdu_text.proofs.Inking.{writes_then, when_there, when_absent}
use Rattle.apdu_text.proofs.pen.Pen.attributes_if.Goals as goal

pub returns-then-is : goal.returns-then-is
unfolding attribute_rows
returns-then-is c = when_there _ c.if-is.true (writes_then c.word.ensures (writes_then c.list_front.ensures c.rows.ensures))

pub returns-else-is : goal.returns-else-is
returns-else-is c = when_absent _ _ c.if-is.false

-- With rows or without.
-- Assumes nothing.
use Rattle.apdu_text.proofs.Pieces.{list_empty, list_filled}
use Rattle.apdu_text.proofs.pen.Pen.list_front.Goals as goal

pub returns-then-n-eq0 : goal.returns-then-n-eq0
returns-then-n-eq0 c = list_empty _ c.if-n-eq0.true c.character.ensures c.character-then-n-eq0.ensures

pub returns-else-n-eq0 : goal.returns-else-n-eq0
returns-else-n-eq0 c = list_filled _ c.if-n-eq0.false c.character.ensures

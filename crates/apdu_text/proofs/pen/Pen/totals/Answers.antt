-- Three numbers and the line's end.
-- Assumes nothing.
use Rattle.apdu_text.proofs.Flat.{totals_write}
use Rattle.apdu_text.proofs.pen.Pen.totals.Goals as goal

pub returns : goal.returns
returns c = totals_write _ _ _ c.number.ensures c.number-2.ensures c.number-3.ensures c.character.ensures

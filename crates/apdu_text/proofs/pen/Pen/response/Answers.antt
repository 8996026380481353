-- Its fields, one behind the other.
-- Assumes nothing.
use Rattle.apdu_text.specs.MessageText.{response_text}
use Rattle.apdu_text.proofs.Inking.{writes_then}
use Rattle.apdu_text.proofs.pen.Pen.response.Goals as goal

pub returns : goal.returns
unfolding response_text
returns c = writes_then c.number.ensures (writes_then c.number-2.ensures (writes_then c.number_if.ensures c.number_if-2.ensures))

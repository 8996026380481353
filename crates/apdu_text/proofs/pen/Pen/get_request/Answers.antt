-- Its fields, one behind the other.
-- Assumes nothing.
use Rattle.apdu_text.specs.MessageText.{get_request_text}
use Rattle.apdu_text.proofs.Inking.{writes_then}
use Rattle.apdu_text.proofs.pen.Pen.get_request.Goals as goal

pub returns : goal.returns
unfolding get_request_text
returns c = writes_then c.number.ensures (writes_then c.number-2.ensures (writes_then c.string_if.ensures (writes_then c.number_if.ensures c.list_if.ensures)))

use Rattle.apdu_text.proofs.Inking.{writes_then}
use Rattle.apdu_text.proofs.pen.Pen.number.Goals as goal

pub returns : goal.returns
returns c = writes_then c.word.ensures c.decimal.ensures

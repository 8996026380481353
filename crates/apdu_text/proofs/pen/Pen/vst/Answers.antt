-- Its fields, one behind the other.
-- Assumes nothing.
use Rattle.apdu_text.specs.MessageText.{vst_text}
use Rattle.apdu_text.proofs.Inking.{writes_then}
use Rattle.apdu_text.proofs.pen.Pen.vst.Goals as goal

pub returns : goal.returns
unfolding vst_text
returns c =
    let t = rw c.front-applications.ensures at c.entries.ensures in
    writes_then c.number.ensures (writes_then c.number-2.ensures (writes_then t.0 (writes_then c.number-3.ensures (writes_then c.number-4.ensures c.number_if.ensures))))

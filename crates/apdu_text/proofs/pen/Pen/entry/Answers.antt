-- Its fields, one behind the other.
-- Assumes nothing.
use Rattle.apdu_text.specs.Parts.{entry_text}
use Rattle.apdu_text.proofs.Inking.{writes_then}
use Rattle.apdu_text.proofs.pen.Pen.entry.Goals as goal

pub returns : goal.returns
unfolding entry_text
returns c = writes_then (rw c.from.ensures at c.decimal.ensures) (writes_then (rw c.from-2.ensures at c.number_if.ensures) (rw (c.from-3.ensures, c.from-4.ensures) at c.container_if.ensures))

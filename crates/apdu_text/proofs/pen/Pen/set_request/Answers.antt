-- Its fields, one behind the other.
-- Assumes nothing.
use mathlib.Core.Path.{◌∙◌}
use Rattle.apdu_text.specs.Words.{mode_is}
use Rattle.apdu_text.proofs.Pieces.{number_as, bit_as}
use Rattle.apdu_text.specs.MessageText.{set_request_text}
use Rattle.apdu_text.proofs.Inking.{writes_then}
use Rattle.apdu_text.proofs.pen.Pen.set_request.Goals as goal

pub returns : goal.returns
unfolding set_request_text
returns c = writes_then c.number.ensures (writes_then (number_as mode_is (c.from.ensures ∙ bit_as c.args.m.mode) c.number-2.ensures) (writes_then c.number-3.ensures (writes_then c.string_if.ensures (writes_then (rw c.front.ensures at c.attributes_if.ensures) c.number_if.ensures))))

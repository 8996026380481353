-- The choice with the leading part, and then the components, one after the other.
-- Assumes nothing.
use Rattle.apdu_writing.proofs.Leads.{bit_is}
use mathlib.Core.Path.{◌∙◌}
use Rattle.apdu_writing.proofs.Messages.{request_by}
use Rattle.apdu_writing.proofs.kinds.request.Goals as goal

pub shape_of-out : goal.shape_of-out
shape_of-out c = c.number_if.auto.out ∙ c.boxed_if-h.auto.out ∙ c.string_if-g.auto.out ∙ c.number-f.auto.out ∙ c.number-e.auto.out ∙ c.put-d.auto.out

pub returns : goal.returns
returns c = request_by _ _ _ _ c.requires (bit_is _ c.from.ensures) (bit_is _ c.from-2.ensures) (bit_is _ c.from-3.ensures) (bit_is _ c.from-4.ensures) c.put-d.ensures c.number-e.ensures c.number-f.ensures c.string_if-g.ensures c.boxed_if-h.ensures c.number_if.ensures

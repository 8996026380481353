-- `attributes::request` meets its contract: what is gathered answers as the list does. Assumes nothing.
use Rattle.attributes.proofs.Outcomes.{gathered_answered}
use Rattle.attributes.proofs.request.Goals as goal

pub returns : goal.returns
returns c = gathered_answered _ _ _ _ _ _ _ _ _ _ (rw c.gather.ensures at c.request_in.ensures)

-- The leading bits, then eid, iid and parameter up to its rows.
-- Assumes nothing.
use Rattle.apdu_reading.proofs.ServiceMessages.{action_response_opens}
use Rattle.apdu_reading.proofs.services.action_response.Goals as goal

pub returns : goal.returns
returns c = action_response_opens _ _ c.requires.1 c.piece-lead.ensures.0 c.flag-has_iid.ensures c.flag-has_parameter.ensures c.flag-has_ret.ensures c.read_field-fill.ensures c.integer-eid.ensures c.integer_if-iid.ensures c.container_if-h.ensures c.announces-d2.ensures c.requires.2

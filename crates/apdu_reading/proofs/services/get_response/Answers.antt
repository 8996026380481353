-- The leading bits, then eid, iid and the count of the attribute list.
-- Assumes nothing.
use Rattle.apdu_reading.proofs.ServiceMessages.{get_response_opens}
use Rattle.apdu_reading.proofs.services.get_response.Goals as goal

pub returns : goal.returns
returns c = get_response_opens _ _ c.requires.1 c.piece-lead.ensures.0 c.flag-has_iid.ensures c.flag-has_attributes.ensures c.flag-has_ret.ensures c.read_field-fill.ensures c.integer-eid.ensures c.integer_if-iid.ensures c.attributes_if-cursor.ensures c.requires.2

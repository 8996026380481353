-- The leading bits, then eid, credentials and the count of the attribute list.
-- Assumes nothing.
use Rattle.apdu_reading.proofs.ServiceMessages.{set_request_opens}
use Rattle.apdu_reading.proofs.services.set_request.Goals as goal

pub returns : goal.returns
returns c = set_request_opens _ _ c.requires.1 c.piece-lead.ensures.0 _ c.flag-has_credentials.ensures c.flag-has_iid.ensures c.read_field-fill.ensures c.flag-mode.ensures c.integer-eid.ensures c.string_if-credentials.ensures c.attributes_if-cursor.ensures c.requires.2

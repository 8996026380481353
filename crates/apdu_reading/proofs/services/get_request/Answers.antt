-- The leading bits, then eid, credentials, iid and the ids.
-- Assumes nothing.
use Rattle.apdu_reading.proofs.ServiceMessages.{get_request_opens}
use Rattle.apdu_reading.proofs.services.get_request.Goals as goal

pub returns : goal.returns
returns c = get_request_opens _ _ c.requires.1 c.piece-lead.ensures.0 c.flag-has_credentials.ensures c.flag-has_iid.ensures c.flag-has_ids.ensures c.read_field-fill.ensures c.integer-eid.ensures c.string_if-credentials.ensures c.integer_if-iid.ensures c.id_list_if-ids.ensures c.requires.2

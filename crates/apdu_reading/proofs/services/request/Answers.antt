-- The leading bits, then eid, type, credentials and parameter up to its rows.
-- Assumes nothing.
use native.Mathlib.Omega.{arith}
use Rattle.apdu_reading.proofs.ServiceMessages.{event_request_opens, action_request_opens}
use Rattle.apdu_reading.proofs.services.request.Goals as goal

pub returns-then-c-eq2 : goal.returns-then-c-eq2
returns-then-c-eq2 c = event_request_opens _ _ c.requires.1 c.piece-lead.ensures.0 _ c.flag-has_credentials.ensures c.flag-has_parameter.ensures c.flag-has_iid.ensures c.flag-mode.ensures c.integer-eid.ensures c.integer-service.ensures c.string_if-credentials.ensures c.container_if-h.ensures c.announces-d2.ensures c.if-c-eq2.true

pub returns : goal.returns
returns c = action_request_opens _ _ c.requires.1 c.piece-lead.ensures.0 _ c.flag-has_credentials.ensures c.flag-has_parameter.ensures c.flag-has_iid.ensures c.flag-mode.ensures c.integer-eid.ensures c.integer-service.ensures c.string_if-credentials.ensures c.container_if-h.ensures c.announces-d2.ensures (omega (arith, c.if-c-eq2.false))

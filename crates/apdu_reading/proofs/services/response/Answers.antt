-- The leading bits, then eid, iid and ret.
-- Assumes nothing.
use native.Mathlib.Omega.{arith}
use Rattle.apdu_reading.proofs.ServiceMessages.{set_response_opens, event_response_opens}
use Rattle.apdu_reading.proofs.services.response.Goals as goal

pub returns-then-c-eq5 : goal.returns-then-c-eq5
returns-then-c-eq5 c = set_response_opens _ _ c.requires.1 c.piece-lead.ensures.0 c.flag-has_iid.ensures c.flag-has_ret.ensures c.read_field-fill.ensures c.integer-eid.ensures c.integer_if-iid.ensures c.integer_if-ret.ensures c.if-c-eq5.true

pub returns-else-c-eq5 : goal.returns-else-c-eq5
returns-else-c-eq5 c = event_response_opens _ _ c.requires.1 c.piece-lead.ensures.0 c.flag-has_iid.ensures c.flag-has_ret.ensures c.read_field-fill.ensures c.integer-eid.ensures c.integer_if-iid.ensures c.integer_if-ret.ensures (omega (arith, c.if-c-eq5.false))

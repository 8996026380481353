-- The leading part and then the components, one after the other.
-- Assumes nothing.
use Rattle.apdu_writing.proofs.Leads.{bit_is}
use Rattle.std.proofs.Math.Nat.{mod-eq_of_lt}
use Rattle.apdu_writing.proofs.Messages.{set_request_by}
use Rattle.apdu_writing.proofs.kinds.set_request.Goals as goal

pub returns : goal.returns
returns c = set_request_by _ _ _ (bit_is _ c.from.ensures) (bit_is _ c.from-2.ensures) mod-eq_of_lt (bit_is _ c.from-3.ensures) c.put-d.ensures c.number-e.ensures c.string_if-f.ensures c.attributes-g.ensures c.number_if.ensures

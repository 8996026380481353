-- The choice with the leading part, and then the components, one after the other.
-- Assumes nothing.
use Rattle.apdu_writing.proofs.Leads.{bit_is}
use Rattle.std.proofs.Math.Nat.{mod-eq_of_lt}
use Rattle.apdu_writing.proofs.Leads.{response_by}
use Rattle.apdu_writing.proofs.kinds.response.Goals as goal

pub returns : goal.returns
returns c = response_by _ _ c.requires (bit_is _ c.from.ensures) (bit_is _ c.from-2.ensures) mod-eq_of_lt c.put-d.ensures c.number-e.ensures c.number_if-f.ensures c.number_if.ensures

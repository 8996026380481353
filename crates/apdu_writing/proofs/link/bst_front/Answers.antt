-- The choice with the leading part, the time and the profile.
-- Assumes nothing.
use Rattle.apdu_writing.proofs.Leads.{bit_is}
use Rattle.std.proofs.Math.Nat.{mod-eq_of_lt}
use Rattle.apdu_writing.proofs.Links.{bst_front_law}
use Rattle.apdu_writing.proofs.link.bst_front.Goals as goal

pub returns : goal.returns
returns c = bst_front_law c.args.m (bit_is _ c.from.ensures) mod-eq_of_lt mod-eq_of_lt c.put-d.ensures c.time-e.ensures c.number-quill.ensures

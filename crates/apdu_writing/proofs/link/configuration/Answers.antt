-- A configuration is its class with the presence bit, its maker and its status.
-- Assumes nothing.
use Rattle.apdu_writing.proofs.Leads.{bit_is}
use Rattle.std.proofs.Math.Nat.{mod-eq_of_lt}
use Rattle.apdu_writing.proofs.Links.{configuration_by}
use Rattle.apdu_writing.proofs.link.configuration.Goals as goal

pub returns : goal.returns
returns c = configuration_by c.args.p _ _ c.args.status (bit_is _ c.from.ensures) mod-eq_of_lt c.put-d.ensures c.word-e.ensures c.word_if.ensures

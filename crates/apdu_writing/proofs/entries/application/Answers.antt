-- An entry is its first octet, its EID and its parameter.
-- Assumes nothing.
use Rattle.apdu_writing.proofs.Leads.{bit_is}
use Rattle.std.proofs.Math.Nat.{mod-eq_of_lt}
use Rattle.apdu_writing.proofs.EntryLists.{entry_by}
use Rattle.apdu_writing.proofs.entries.application.Goals as goal

pub returns : goal.returns
returns c = entry_by _ _ _ c.entry_rows.ensures.0 (bit_is _ c.from.ensures) (bit_is _ c.from-2.ensures) mod-eq_of_lt c.put-d.ensures c.number_if-f.ensures c.parameter.ensures

-- A number is one field of eight bits.
-- Assumes nothing.
use Rattle.apdu_writing.proofs.Components.{number_by}
use Rattle.apdu_writing.proofs.component.number.Goals as goal

pub returns : goal.returns
returns c = number_by _ c.put.ensures

-- A number is one field.
-- Assumes nothing.
use Rattle.apdu_writing.proofs.Links.{time_by}
use Rattle.apdu_writing.proofs.link.time.Goals as goal

pub returns : goal.returns
returns c = time_by _ c.put.ensures

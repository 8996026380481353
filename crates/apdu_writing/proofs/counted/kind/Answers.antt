-- A kind is in range where it is known and not too deep.
-- Assumes nothing.
use Rattle.apdu_writing.proofs.Counts.{kind_by, known_by}
use Rattle.apdu_writing.proofs.counted.kind.Goals as goal

pub returns : goal.returns
returns c = (kind_by _ _ c.known.ensures c.put.ensures, known_by c.known.ensures c.put.ensures)

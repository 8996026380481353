-- A count is in range up to 16.
-- Assumes nothing.
use Rattle.apdu_writing.proofs.Counts.{ids_by, few_by_law}
use Rattle.apdu_writing.proofs.counted.id_count.Goals as goal

pub returns : goal.returns
returns c = (ids_by _ c.put.ensures, few_by_law c.put.ensures)

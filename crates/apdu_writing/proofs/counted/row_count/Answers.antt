-- A count of rows is in range up to 16 and up to the room left.
-- Assumes nothing.
use Rattle.apdu_writing.proofs.Counts.{rows_by}
use Rattle.apdu_writing.proofs.counted.row_count.Goals as goal

pub returns : goal.returns
returns c = rows_by _ _ c.put.ensures c.spend.ensures

-- A count is in range up to 16.
-- Assumes nothing.
use Rattle.apdu_writing.proofs.Counts.{entries_by, few_by_law}
use Rattle.apdu_writing.proofs.counted.entry_count.Goals as goal

pub returns : goal.returns
returns c = (entries_by _ c.put.ensures, few_by_law c.put.ensures)

-- A row is its id and its container.
-- Assumes nothing.
use Rattle.apdu_writing.proofs.Heads.{next_by}
use Rattle.apdu_writing.proofs.container.next_row.Goals as goal

pub returns : goal.returns
returns c = next_by _ _ _ c.requires c.level.ensures.0 c.number-d.ensures c.head-quill.ensures (rw c.announces.ensures at c.after_row-due.ensures)

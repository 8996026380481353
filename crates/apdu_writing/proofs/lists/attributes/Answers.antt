-- An attribute list is its count and then its rows.
-- Assumes nothing.
use Rattle.apdu_writing.proofs.Boxes.{list_by}
use Rattle.apdu_writing.proofs.lists.attributes.Goals as goal

pub returns : goal.returns
returns c = list_by _ _ _ c.row_count-d.ensures c.rows.ensures

-- The profiles of a BST, the configuration of a VST.
-- Assumes nothing.
use Rattle.apdu_reading.proofs.LinkLaws.{bst_end, vst_end}
use Rattle.apdu_reading.proofs.link.link_end.Goals as goal

pub returns-then-f-eq8 : goal.returns-then-f-eq8
returns-then-f-eq8 c = bst_end _ _ c.requires.1 _ _ _ c.if-f-eq8.true c.id_list-profiles.ensures

pub returns-else-f-eq8 : goal.returns-else-f-eq8
returns-else-f-eq8 c = vst_end _ _ c.requires.1 _ _ _ c.if-f-eq8.false c.configured-held.ensures

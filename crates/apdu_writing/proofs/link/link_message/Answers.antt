-- The part before the lists, the lists, and the part behind them.
-- Assumes nothing.
use Rattle.apdu_writing.proofs.Links.{link_by}
use Rattle.apdu_writing.proofs.link.link_message.Goals as goal

pub returns : goal.returns
returns c = link_by _ _ _ _ c.link_front-f.ensures c.entry_lists-h.ensures c.link_tail.ensures

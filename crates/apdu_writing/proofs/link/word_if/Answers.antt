-- It is written or passed over.
-- Assumes nothing.
use Rattle.apdu_writing.proofs.Components.{there, absent}
use Rattle.apdu_writing.proofs.link.word_if.Goals as goal

pub returns-then-p : goal.returns-then-p
returns-then-p c = there _ c.if-p.true c.word.ensures

pub returns : goal.returns
returns c = absent _ _ _ _ _ c.if-p.false

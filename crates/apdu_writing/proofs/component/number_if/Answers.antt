-- `number_if` writes the number or nothing.
-- Assumes nothing.
use Rattle.apdu_writing.proofs.Components.{there, absent}
use Rattle.apdu_writing.proofs.component.number_if.Goals as goal

pub returns-then-p : goal.returns-then-p
returns-then-p c = there _ c.if-p.true c.number.ensures

pub returns : goal.returns
returns c = absent _ _ _ _ _ c.if-p.false

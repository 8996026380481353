-- The tests of the definition.
-- Assumes nothing.
use borrow.Author.Tests.{eq-eqb, ne_eqb}
use Rattle.apdu_reading.proofs.rows.wants.Goals as goal

pub returns-then-c-eq0 : goal.returns-then-c-eq0
returns-then-c-eq0 c = simp (eq-eqb _ _ c.if-c-eq0.true, c.saturating_sub.ensures)

pub returns-else-c-eq0 : goal.returns-else-c-eq0
returns-else-c-eq0 c = simp (ne_eqb _ _ c.if-c-eq0.false)

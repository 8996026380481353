-- By whether a fault is set, and by the check.
-- Assumes nothing.
use borrow.Author.Tests.{eq-eqb, ne_eqb}
use mathlib.Core.Path.{◌∙◌}
use Rattle.apdu_reading.specs.Cursor.{judged_by}
use Rattle.apdu_reading.proofs.cursor.judged.Goals as goal

pub returns-then-d-ne0 : goal.returns-then-d-ne0
unfolding judged_by
returns-then-d-ne0 c = rw (ne_eqb _ _ c.if-d-ne0.true)

pub returns-then-wrong : goal.returns-then-wrong
unfolding judged_by
returns-then-wrong c = c.faulty.ensures ∙ rw (eq-eqb _ _ c.if-d-ne0.false, c.if-wrong.true)

pub returns : goal.returns
unfolding judged_by
returns c = rw (eq-eqb _ _ c.if-d-ne0.false, c.if-wrong.false)

-- By whether a fault is set.
-- Assumes nothing.
use borrow.Author.Tests.{eq-eqb, ne_eqb}
use Rattle.apdu_reading.specs.Answers.{answer_of}
use Rattle.apdu_reading.proofs.front.answer_of.Goals as goal

pub returns-then-end-ne0 : goal.returns-then-end-ne0
unfolding answer_of
returns-then-end-ne0 c = simp (ne_eqb _ _ c.if-end-ne0.true)

pub returns-else-end-ne0 : goal.returns-else-end-ne0
unfolding answer_of
returns-else-end-ne0 c = simp (eq-eqb _ _ c.if-end-ne0.false)

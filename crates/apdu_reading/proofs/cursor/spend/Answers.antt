-- By whether a fault is set, and by whether so many may be announced.
-- Assumes nothing.
use borrow.Author.Tests.{eq-eqb, ne_eqb, lt-ltb, le-ltb}
use Rattle.apdu_reading.specs.Cursor.{spent}
use Rattle.apdu_reading.proofs.cursor.spend.Goals as goal

pub returns-then-c-ne0 : goal.returns-then-c-ne0
unfolding spent
returns-then-c-ne0 c = simp (ne_eqb _ _ c.if-c-ne0.true)

pub returns-then-c : goal.returns-then-c
unfolding spent
returns-then-c c = simp (lt-ltb _ _ c.if-c.true, eq-eqb _ _ c.if-c-ne0.false)

pub returns : goal.returns
unfolding spent
returns c = simp (le-ltb _ _ c.if-c.false, c.if-c-ne0.false)

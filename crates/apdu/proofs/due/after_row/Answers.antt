-- The tests of `after_row`, innermost first. What a test found to be 0 stays as it is.
-- Assumes nothing.
use borrow.Author.Tests.{ne_eqb}
use Rattle.apdu.specs.RowCounters.{after_row}
use Rattle.apdu.proofs.due.after_row.Goals as goal

pub returns-then-o-ne0 : goal.returns-then-o-ne0
unfolding after_row
returns-then-o-ne0 c = simp (ne_eqb _ _ c.if-o-ne0.true)

pub returns-then-o-ne0-2 : goal.returns-then-o-ne0-2
unfolding after_row
returns-then-o-ne0-2 c = simp (ne_eqb _ _ c.if-o-ne0-2.true, c.if-o-ne0.false)

pub returns-then-o-ne0-3 : goal.returns-then-o-ne0-3
unfolding after_row
returns-then-o-ne0-3 c = simp (ne_eqb _ _ c.if-o-ne0-3.true, c.if-o-ne0-2.false, c.if-o-ne0.false)

pub returns-then-o-ne0-4 : goal.returns-then-o-ne0-4
unfolding after_row
returns-then-o-ne0-4 c = simp (ne_eqb _ _ c.if-o-ne0-4.true, c.if-o-ne0-3.false, c.if-o-ne0-2.false, c.if-o-ne0.false)

pub returns-else-o-ne0-4 : goal.returns-else-o-ne0-4
unfolding after_row
returns-else-o-ne0-4 c = simp (c.if-o-ne0-4.false, c.if-o-ne0-3.false, c.if-o-ne0-2.false, c.if-o-ne0.false, c.saturating_sub.ensures)

-- The tests of `level_of`, innermost first.
-- Assumes nothing.
use borrow.Author.Tests.{eq-eqb, ne_eqb}
use Rattle.apdu.specs.RowCounters.{level_of}
use native.Mathlib.Omega.{arith}
use Rattle.apdu.proofs.due.level.Goals as goal

pub returns-then-o-ne0 : goal.returns-then-o-ne0
unfolding level_of
returns-then-o-ne0 c = (simp (ne_eqb _ _ c.if-o-ne0.true), omega arith)

pub returns-then-o-ne0-2 : goal.returns-then-o-ne0-2
unfolding level_of
returns-then-o-ne0-2 c = (simp (ne_eqb _ _ c.if-o-ne0-2.true, eq-eqb _ _ c.if-o-ne0.false), omega arith)

pub returns-then-o-ne0-3 : goal.returns-then-o-ne0-3
unfolding level_of
returns-then-o-ne0-3 c = (simp (ne_eqb _ _ c.if-o-ne0-3.true, eq-eqb _ _ c.if-o-ne0-2.false, eq-eqb _ _ c.if-o-ne0.false), omega arith)

pub returns-then-o-ne0-4 : goal.returns-then-o-ne0-4
unfolding level_of
returns-then-o-ne0-4 c = (simp (ne_eqb _ _ c.if-o-ne0-4.true, eq-eqb _ _ c.if-o-ne0-3.false, eq-eqb _ _ c.if-o-ne0-2.false, eq-eqb _ _ c.if-o-ne0.false), omega arith)

pub returns-else-o-ne0-4 : goal.returns-else-o-ne0-4
unfolding level_of
returns-else-o-ne0-4 c = (simp (eq-eqb _ _ c.if-o-ne0-4.false, eq-eqb _ _ c.if-o-ne0-3.false, eq-eqb _ _ c.if-o-ne0-2.false, eq-eqb _ _ c.if-o-ne0.false), omega arith)

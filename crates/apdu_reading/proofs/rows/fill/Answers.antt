use Rattle.apdu_reading.proofs.Fill.{held_none, stopped_rows, few, again, less, less_stop, done}
use native.Mathlib.Omega.{arith}
use Rattle.apdu_reading.proofs.rows.fill.Goals as goal

pub loop-due-init : goal.loop-due-init
loop-due-init c = (held_none _ _ _ c.requires.1, c.requires.1.few)

pub loop-due-smaller-then-cursor-eq0 : goal.loop-due-smaller-then-cursor-eq0
loop-due-smaller-then-cursor-eq0 c = less _ _ _ _ _ c.loop-due.invariant.0 c.wants.ensures c.loop-due-test.true _ c.if-cursor-eq0.true

pub loop-due-preserved-then-cursor-eq0 : goal.loop-due-preserved-then-cursor-eq0
loop-due-preserved-then-cursor-eq0 c = (again _ _ _ _ _ c.loop-due.invariant.0 c.wants.ensures c.loop-due-test.true _ c.next_row-t.ensures c.if-cursor-eq0.true, let k = few _ _ _ _ _ c.loop-due.invariant.0 c.wants.ensures c.loop-due-test.true in omega arith)

pub loop-due-smaller : goal.loop-due-smaller
loop-due-smaller c = less_stop _ _ _ _ _ c.loop-due.invariant.0 c.wants.ensures c.loop-due-test.true _ c.if-cursor-eq0.false

pub loop-due-preserved : goal.loop-due-preserved
loop-due-preserved c = (stopped_rows _ _ _ _ _ c.loop-due.invariant.0 _ c.next_row-t.ensures c.if-cursor-eq0.false, c.loop-due.invariant.1)

pub returns : goal.returns
returns c = done _ _ _ _ _ c.loop-due.invariant.0 c.wants.ensures c.loop-due.invariant.1 c.loop-due-test.false

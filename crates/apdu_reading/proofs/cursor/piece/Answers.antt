-- By the three ways of `piece_of`: a fault is set, the bits are not there, they are read.
-- Assumes nothing.
use Rattle.apdu_reading.proofs.Pieces.{by_stopped, by_cut, by_begins, by_goes_on}
use native.Mathlib.Omega.{arith}
use Rattle.apdu_reading.proofs.cursor.piece.Goals as goal

pub returns-then-c-ne0 : goal.returns-then-c-ne0
returns-then-c-ne0 c = by_stopped _ _ _ _ c.if-c-ne0.true c.faulty.ensures

pub returns-then-end-at : goal.returns-then-end-at
returns-then-end-at c = by_cut _ _ _ _ c.if-c-ne0.false c.faulty-then-end-at.ensures (omega arith)

pub returns-then-end-at-2 : goal.returns-then-end-at-2
returns-then-end-at-2 c = by_cut _ _ _ _ c.if-c-ne0.false c.faulty-then-end-at-2.ensures (omega arith)

pub returns-then-begins : goal.returns-then-begins
returns-then-begins c = by_begins _ _ _ _ c.if-c-ne0.false c.if-begins.true c.read_field-value.ensures c.moved.ensures (omega arith)

pub returns : goal.returns
returns c = by_goes_on _ _ _ _ c.if-c-ne0.false c.if-begins.false c.read_field-value.ensures c.moved-2.ensures (omega arith)

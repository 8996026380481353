use mathlib.Core.Path.{◌≡◌, refl, ◌∙◌}
use Rattle.apdu_reading.proofs.Fill.{held_none, stopped_rows, few, again, less, less_stop, done}
use Rattle.apdu_reading.proofs.ServiceMessages.{opens_ready, read_rows}
use Rattle.apdu_reading.proofs.Once.{read_once}
use Rattle.apdu_reading.proofs.FrontLaws.{too_long, choice_refused, message_refused, message_answered}
use native.Mathlib.Omega.{arith}
use borrow.Author.Rules.{rules}
use Rattle.apdu.proofs.Dues.{two}
use Rattle.apdu_reading.proofs.read.Goals as goal

pub returns-then-s-gt-LONGEST_MESSAGE : goal.returns-then-s-gt-LONGEST_MESSAGE
returns-then-s-gt-LONGEST_MESSAGE c = record { answer = too_long _ c.if-s-gt-LONGEST_MESSAGE.true c.refused.ensures; once = read_once }

pub returns-then-c-ne0 : goal.returns-then-c-ne0
returns-then-c-ne0 c = record { answer = choice_refused _ c.if-s-gt-LONGEST_MESSAGE.false _ c.chosen-c.ensures c.if-c-ne0.true c.refused-then-c-ne0.ensures; once = read_once }

pub returns-then-c-ge8 : goal.returns-then-c-ge8
returns-then-c-ge8 c = record { answer = c.link.ensures; once = read_once }

pub loop-due-init : goal.loop-due-init
loop-due-init c = let none : c.default.result ≡ two 0 = search rules in (held_none _ _ _ (rw none (opens_ready c.opening-o.ensures c.no_rows-rows.ensures)), omega arith, refl)

pub loop-due-smaller-then-cursor-eq0 : goal.loop-due-smaller-then-cursor-eq0
loop-due-smaller-then-cursor-eq0 c = less _ _ _ _ _ c.loop-due.invariant.0 c.wants.ensures c.loop-due-test.true _ c.if-cursor-eq0.true

pub loop-due-preserved-then-cursor-eq0 : goal.loop-due-preserved-then-cursor-eq0
loop-due-preserved-then-cursor-eq0 c = (again _ _ _ _ _ c.loop-due.invariant.0 c.wants.ensures c.loop-due-test.true _ c.next_row-t.ensures c.if-cursor-eq0.true, (let k = few _ _ _ _ _ c.loop-due.invariant.0 c.wants.ensures c.loop-due-test.true in omega arith), c.loop-due.invariant.2)

pub loop-due-smaller : goal.loop-due-smaller
loop-due-smaller c = less_stop _ _ _ _ _ c.loop-due.invariant.0 c.wants.ensures c.loop-due-test.true _ c.if-cursor-eq0.false

pub loop-due-preserved : goal.loop-due-preserved
loop-due-preserved c = (stopped_rows _ _ _ _ _ c.loop-due.invariant.0 _ c.next_row-t.ensures c.if-cursor-eq0.false, c.loop-due.invariant.1, c.loop-due.invariant.2)

pub returns-then-end-ne0 : goal.returns-then-end-ne0
returns-then-end-ne0 c = let none : c.default.result ≡ two 0 = search rules in record { answer = message_refused _ c.if-s-gt-LONGEST_MESSAGE.false _ (read_rows c.opening-o.ensures c.no_rows-rows.ensures (rw none at (done _ _ _ _ _ c.loop-due.invariant.0 c.wants.ensures c.loop-due.invariant.1 c.loop-due-test.false)) c.integer_if-number.ensures) c.ended-end.ensures c.if-end-ne0.true c.refused-then-end-ne0.ensures; once = read_once }

pub returns : goal.returns
returns c = let none : c.default.result ≡ two 0 = search rules in record { answer = message_answered _ c.if-s-gt-LONGEST_MESSAGE.false _ (read_rows c.opening-o.ensures c.no_rows-rows.ensures (rw none at (done _ _ _ _ _ c.loop-due.invariant.0 c.wants.ensures c.loop-due.invariant.1 c.loop-due-test.false)) c.integer_if-number.ensures) c.ended-end.ensures c.if-end-ne0.false c.closed.ensures (c.loop-due.invariant.2 ∙ c.no_entries-entries.ensures); once = read_once }

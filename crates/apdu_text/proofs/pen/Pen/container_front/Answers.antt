-- Each kind that is shown, and the others.
-- Assumes nothing.
use native.Mathlib.Omega.{arith}
use Rattle.apdu_text.proofs.Inking.{writes_then}
use Rattle.apdu_text.proofs.Pieces.{front_octets, front_eid, front_ids, front_list, front_none}
use Rattle.apdu_text.proofs.pen.Pen.container_front.Goals as goal

pub returns-in-2 : goal.returns-in-2
returns-in-2 c = front_octets _ _ _ _ c.in-2.is c.string.ensures

pub returns-in-7 : goal.returns-in-7
returns-in-7 c = front_eid _ _ _ _ c.in-7.is c.number.ensures

pub returns-in-8 : goal.returns-in-8
returns-in-8 c = front_ids _ _ _ _ c.in-8.is c.list.ensures

pub returns-in-9 : goal.returns-in-9
returns-in-9 c = front_list _ _ _ _ c.in-9.is (writes_then c.word.ensures c.list_front.ensures)

pub returns-in_default : goal.returns-in_default
returns-in_default c = front_none _ _ _ _ _ (λ e. absurd (omega arith)) (λ e. absurd (omega arith)) (λ e. absurd (omega arith)) (λ e. absurd (omega arith))

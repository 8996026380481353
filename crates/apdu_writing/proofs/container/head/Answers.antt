-- `head` writes the kind, and then what the kind brings.
-- Assumes nothing.
use native.Mathlib.Omega.{arith}
use Rattle.apdu_writing.proofs.Heads.{head_string, head_eid, head_ids, head_rows}
use Rattle.apdu_writing.proofs.container.head.Goals as goal

pub returns-in-2 : goal.returns-in-2
returns-in-2 c = head_string _ _ _ _ c.kind-d.ensures c.in-2.is c.string.ensures

pub returns-in-7 : goal.returns-in-7
returns-in-7 c = head_eid _ _ _ _ c.kind-d.ensures c.in-7.is c.number.ensures

pub returns-in-8 : goal.returns-in-8
returns-in-8 c = head_ids _ _ _ _ c.kind-d.ensures c.in-8.is c.ids.ensures

pub returns-in_default : goal.returns-in_default
returns-in_default c = head_rows _ _ _ _ c.kind-d.ensures (λ h. omega (arith, h)) (λ h. omega (arith, h)) (λ h. omega (arith, h)) c.row_count.ensures

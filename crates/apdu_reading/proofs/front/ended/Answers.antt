-- By whether a fault is set, and octets are left.
-- Assumes nothing.
use mathlib.Core.Path.{◌∙◌}
use Rattle.apdu_reading.proofs.FrontLaws.{ended_fault, ended_whole, ended_left}
use Rattle.apdu_reading.proofs.front.ended.Goals as goal
use Rattle.apdu_reading.proofs.front.ended.Goals.{else-c-eq0-via-then-c-eq0+else-c-s, else-c-eq0-via-else-c-eq0}

pub returns-then-c-s : goal.returns-then-c-s
returns-then-c-s c = c.faulty.ensures ∙ ended_left _ _ c.if-c-eq0.true c.if-c-s.true

pub returns-else-c-eq0 : goal.returns-else-c-eq0
returns-else-c-eq0 c =
    elim c.else-c-eq0.branch [
      | else-c-eq0-via-then-c-eq0+else-c-s w ↦ ended_whole _ _ w.if-c-eq0.true w.if-c-s.false
      | else-c-eq0-via-else-c-eq0 w ↦ ended_fault _ _ w.if-c-eq0.false
    ]

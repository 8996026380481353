-- The kinds are compared, then the numbers, and then the octets of a string or of a list of ids.
-- Assumes nothing.
use Rattle.std.proofs.Common.{rules}
use Rattle.apdu_same.specs.Walk.{same_head}
use Rattle.apdu_same.proofs.rows.head.Goals as goal

pub returns-then-k-l : goal.returns-then-k-l
unfolding same_head
returns-then-k-l c = search rules

pub returns-in-2 : goal.returns-in-2
unfolding same_head
returns-in-2 c = search rules

pub returns-in_default : goal.returns-in_default
unfolding same_head
returns-in_default c = search rules

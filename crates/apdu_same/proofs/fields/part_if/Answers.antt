-- The lengths are compared and then the octets, or they are passed over.
-- Assumes nothing.
use Rattle.std.proofs.Common.{rules}
use Rattle.apdu_same.specs.Walk.{same_if, same_part}
use Rattle.apdu_same.proofs.fields.part_if.Goals as goal

pub returns-then-p : goal.returns-then-p
unfolding same_if same_part
returns-then-p c = search rules

pub returns : goal.returns
unfolding same_if same_part
returns c = search rules

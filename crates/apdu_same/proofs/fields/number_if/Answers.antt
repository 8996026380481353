-- The numbers are compared or passed over.
-- Assumes nothing.
use Rattle.std.proofs.Common.{rules}
use Rattle.apdu_same.specs.Walk.{same_if}
use Rattle.apdu_same.proofs.fields.number_if.Goals as goal

pub returns-then-p : goal.returns-then-p
unfolding same_if
returns-then-p c = search rules

pub returns : goal.returns
unfolding same_if
returns c = search rules

-- The counts are compared and then the rows, or they are passed over.
-- Assumes nothing.
use Rattle.std.proofs.Common.{rules}
use Rattle.apdu_same.specs.Walk.{same_if, same_list}
use Rattle.apdu_same.proofs.rows.attributes_if.Goals as goal

pub returns-then-p : goal.returns-then-p
unfolding same_if same_list
returns-then-p c = search rules

pub returns : goal.returns
unfolding same_if same_list
returns c = search rules

-- The heads are compared and then the rows of an attribute list, or they are passed over.
-- Assumes nothing.
use Rattle.std.proofs.Common.{rules}
use Rattle.apdu_same.specs.Walk.{same_if, same_box}
use Rattle.apdu_same.proofs.rows.boxed_if.Goals as goal

pub returns-then-p : goal.returns-then-p
unfolding same_if same_box
returns-then-p c = search rules

pub returns : goal.returns
unfolding same_if same_box
returns c = search rules

-- The ids are compared, and then the containers.
-- Assumes nothing.
use Rattle.std.proofs.Common.{rules}
use Rattle.apdu_same.specs.Walk.{same_row}
use Rattle.apdu_same.proofs.rows.row.Goals as goal

pub returns-then-v-w : goal.returns-then-v-w
unfolding same_row
returns-then-v-w c = search rules

pub returns-else-v-w : goal.returns-else-v-w
unfolding same_row
returns-else-v-w c = search rules

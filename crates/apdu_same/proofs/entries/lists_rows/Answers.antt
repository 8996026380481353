-- What it computes is the definition.
-- Assumes nothing.
use Rattle.std.proofs.Common.{rules}
use Rattle.apdu_same.specs.Walk.{lists_rows}
use Rattle.apdu_same.proofs.entries.lists_rows.Goals as goal

pub returns-then-e : goal.returns-then-e
unfolding lists_rows
returns-then-e c = search rules

pub returns-else-e : goal.returns-else-e
unfolding lists_rows
returns-else-e c = search rules

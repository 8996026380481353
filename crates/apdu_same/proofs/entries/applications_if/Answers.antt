-- The counts are compared and then the entries, or they are passed over.
-- Assumes nothing.
use Rattle.std.proofs.Common.{rules}
use Rattle.apdu_same.specs.Walk.{same_if, same_applications}
use Rattle.apdu_same.proofs.entries.applications_if.Goals as goal

pub returns-then-p : goal.returns-then-p
unfolding same_if same_applications
returns-then-p c = search rules

pub returns : goal.returns
unfolding same_if same_applications
returns c = search rules

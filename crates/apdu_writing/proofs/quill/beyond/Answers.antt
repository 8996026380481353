-- `beyond` goes to FAR at most.
-- Assumes nothing.
use Rattle.std.proofs.Common.{◌∙◌}
use Rattle.apdu_writing.proofs.Quills.{least_is}
use Rattle.apdu_writing.proofs.quill.beyond.Goals as goal

pub returns : goal.returns
returns c = c.min.ensures ∙ least_is _

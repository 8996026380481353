-- The dry run to an output of one octet tells it.
-- Assumes nothing.
use Rattle.apdu_writing.proofs.Answers.{tells}
use mathlib.Core.List.{[]}
use Rattle.apdu_writing.proofs.writing.well_formed.Goals as goal

pub returns : goal.returns
returns c = tells _ _ _ _ [] c.put_message-size.ensures

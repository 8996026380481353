-- Lists with nothing in them stand beside a refusal.
-- Assumes nothing.
use Rattle.apdu_reading.specs.Answers.{refusal}
use Rattle.apdu_reading.proofs.front.refused.Goals as goal

pub returns : goal.returns
unfolding refusal
returns c = rw c.cleared.ensures

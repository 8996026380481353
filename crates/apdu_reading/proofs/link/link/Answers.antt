-- What stands before the application lists, and the rest from there on.
-- Assumes nothing.
use Rattle.apdu_reading.proofs.link.link.Goals as goal

pub returns : goal.returns
returns c = c.application_lists.ensures

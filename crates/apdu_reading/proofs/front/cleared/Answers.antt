-- Both lists have nothing in them.
-- Assumes nothing.
use Rattle.apdu_reading.proofs.front.cleared.Goals as goal

pub returns : goal.returns
returns c = rw (c.no_rows.ensures, c.no_entries.ensures)

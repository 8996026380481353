-- The next row is an integer and a container at the depth of the innermost list.
-- Assumes nothing.
use Rattle.apdu_reading.proofs.Places.{opens_place}
use Rattle.apdu_reading.proofs.Walk.{next}
use Rattle.apdu_reading.proofs.container.next_row.Goals as goal

pub returns : goal.returns
returns c =
    let short = c.requires.0 in
    next _ _ _ c.requires.1 c.integer-d.ensures c.level.ensures.0 (opens_place short c.place.ensures c.container-h.ensures) c.announces.ensures c.after_row.ensures

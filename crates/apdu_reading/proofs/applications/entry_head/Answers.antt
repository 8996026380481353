-- The octet, and what its bits say is there.
-- Assumes nothing.
use Rattle.apdu_reading.proofs.Places.{maybe_place}
use Rattle.apdu_reading.proofs.EntryLaws.{entry_opens}
use Rattle.apdu_reading.proofs.applications.entry_head.Goals as goal

pub returns : goal.returns
returns c =
    let short = c.requires in
    entry_opens _ _ c.entry_octet-octet.ensures.0 c.entry_octet-octet.ensures.1 c.integer_if-eid.ensures (maybe_place short c.place.ensures c.container_if-h.ensures) c.announces.ensures

-- The difference fits, and its range decides.
-- Assumes nothing.
use Rattle.initialisation.proofs.KnownLaws.{is_soon_law, is_late, is_back}
use Rattle.initialisation.proofs.known.is_soon.Goals as goal

pub returns-in-0-to-254 : goal.returns-in-0-to-254
returns-in-0-to-254 c = is_soon_law c.from.ensures c.from-2.ensures c.ranges.time.fits c.ranges.stored.fits c.in-0-to-254.if-matches-own.false c.in-0-to-254.if-matches-2-own.true

pub returns-in_default : goal.returns-in_default
returns-in_default c = is_back c.from.ensures c.from-2.ensures c.ranges.time.fits c.ranges.stored.fits c.in_default.if-matches-own.true

pub returns-in_default-2 : goal.returns-in_default-2
returns-in_default-2 c = is_late c.from.ensures c.from-2.ensures c.ranges.time.fits c.ranges.stored.fits c.in_default.if-matches-2-own.false

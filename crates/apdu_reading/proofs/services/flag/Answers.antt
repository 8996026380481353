-- The bit is 1 where the number of one bit is.
-- Assumes nothing.
use Rattle.apdu_reading.proofs.Leads.{bit_of_law}
use Rattle.apdu_reading.proofs.services.flag.Goals as goal

pub returns : goal.returns
returns c = bit_of_law _ _ _ c.read_field.ensures

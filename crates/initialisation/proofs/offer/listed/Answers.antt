-- The profile is read behind the octets before it.
-- Assumes nothing.
use Rattle.initialisation.proofs.OfferLaws.{listed_is}
use Rattle.initialisation.proofs.offer.listed.Goals as goal

pub returns : goal.returns
returns c = listed_is _ _ _ c.requires c.read_field.ensures

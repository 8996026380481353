-- The class with its status bit, the maker, and the status if it is there.
-- Assumes nothing.
use mathlib.Core.Path.{◌∙◌}
use Rattle.apdu_reading.proofs.LinkLaws.{two_octets, with_status, without_status}
use Rattle.apdu_reading.proofs.Components.{class_is_law}
use Rattle.apdu_reading.proofs.link.configured.Goals as goal

pub returns-then-has_status : goal.returns-then-has_status
returns-then-has_status c = with_status _ _ (c.piece-class.ensures.0 ∙ class_is_law _ _) c.piece-class.ensures.1 c.if-has_status.true-raw (two_octets _ _ c.piece-maker.ensures.0) (two_octets _ _ c.piece-status.ensures.0)

pub returns-else-has_status : goal.returns-else-has_status
returns-else-has_status c = without_status _ _ (c.piece-class.ensures.0 ∙ class_is_law _ _) c.piece-class.ensures.1 c.if-has_status.false-raw (two_octets _ _ c.piece-maker.ensures.0)

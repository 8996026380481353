-- `string` reads the extension bit and the length, and passes over the octets.
-- Assumes nothing.
use mathlib.Core.Path.{◌∙◌}
use Rattle.apdu_reading.proofs.Components.{form_is, length_is, octets_is}
use Rattle.apdu_reading.proofs.Strings.{string_by}
use Rattle.apdu_reading.proofs.component.string.Goals as goal

pub returns : goal.returns
returns c =
    string_by _ _ (c.judged-form.ensures ∙ form_is _ _ c.piece-p.ensures.0)
    (c.piece.ensures.0 ∙ length_is _ _) (octets_is _ _ _) c.skip.ensures c.piece.ensures.1

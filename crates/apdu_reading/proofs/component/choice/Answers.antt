-- `choice` is its piece, judged by its check.
-- Assumes nothing.
use mathlib.Core.Path.{◌∙◌}
use Rattle.apdu_reading.proofs.Components.{choice_is}
use Rattle.apdu_reading.proofs.component.choice.Goals as goal

pub returns : goal.returns
returns c = c.judged.ensures ∙ choice_is _ _ c.piece-p.ensures.0

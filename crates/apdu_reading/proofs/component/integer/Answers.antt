-- `integer` is its piece, judged by its check.
-- Assumes nothing.
use mathlib.Core.Path.{◌∙◌}
use Rattle.apdu_reading.proofs.Components.{integer_is}
use Rattle.apdu_reading.proofs.Numbers.{integer_extended, lt_as}
use Rattle.apdu_reading.proofs.component.integer.Goals as goal

pub returns : goal.returns
returns c = let e = c.judged.ensures ∙ integer_is _ _ c.whole-p.ensures.0 in (e, lt_as integer_extended _ _ e)

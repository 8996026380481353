-- `entry_octet` is its piece, judged by its check.
-- Assumes nothing.
use mathlib.Core.Path.{◌∙◌}
use Rattle.apdu_reading.proofs.Components.{entry_is}
use Rattle.apdu_reading.proofs.Pieces.{judged_lt}
use Rattle.apdu_reading.proofs.component.entry_octet.Goals as goal

pub returns : goal.returns
returns c = (c.judged.ensures ∙ entry_is _ _ c.whole-p.ensures.0, judged_lt _ _ _ _ _ c.judged.ensures c.whole-p.ensures.1)

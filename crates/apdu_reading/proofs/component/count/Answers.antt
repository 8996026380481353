-- `count` is an integer, judged by the check of counts.
-- Assumes nothing.
use mathlib.Core.Path.{◌∙◌}
use Rattle.apdu_reading.proofs.Components.{id_count_is, entry_count_is}
use Rattle.apdu_reading.proofs.Numbers.{count_as}
use Rattle.apdu_reading.proofs.component.count.Goals as goal

pub returns : goal.returns
returns c =
    let e = c.judged.ensures ∙ id_count_is _ _ c.integer-d.ensures.0 in
    (e, c.judged.ensures ∙ entry_count_is _ _ c.integer-d.ensures.0, count_as _ _ e)

-- `kind` is an integer, judged by the checks of containers in their order.
-- Assumes nothing.
use Rattle.apdu_reading.proofs.Components.{kind_extended}
use Rattle.apdu_reading.proofs.Numbers.{kind_by, lt_as}
use Rattle.apdu_reading.proofs.component.kind.Goals as goal

pub returns : goal.returns
returns c =
    let e = kind_by _ _ c.integer-d.ensures.0 _ c.judged-e.ensures c.known.ensures c.judged.ensures in
    (e, lt_as (kind_extended _) _ _ e)

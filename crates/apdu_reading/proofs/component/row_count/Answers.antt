-- `row_count` is an integer, judged by the check of row counts, and what it announces is spent.
-- Assumes nothing.
use mathlib.Core.Path.{◌≡◌, ◌∙◌, ap}
use mathlib.Core.Bool.{◌||◌}
use lib.Dec.{ltb}
use borrow.Author.Tests.{lt-ltb, le-ltb}
use Rattle.apdu_format.specs.Limits.{most_counted}
use Rattle.apdu_reading.proofs.Components.{row_count_is, rows_extended}
use Rattle.apdu_reading.proofs.Numbers.{lt_as}
use Rattle.apdu_reading.specs.Cursor.{spent}
use Rattle.apdu_reading.proofs.component.row_count.Goals as goal
use Rattle.apdu_reading.proofs.component.row_count.Goals.{then-d-gt-MOST_COUNTED, else-d-gt-MOST_COUNTED}

pub returns : goal.returns
returns c =
    let n = c.integer-d.result.value in
    let many : c.if-d-gt-MOST_COUNTED.many ≡ (ltb most_counted n || ltb c.args.c.room n) =
    elim c.if-d-gt-MOST_COUNTED.branch [
      | then-d-gt-MOST_COUNTED w ↦ rw (w.many-is, lt-ltb _ _ w.if-d-gt-MOST_COUNTED.true)
      | else-d-gt-MOST_COUNTED w ↦ rw (w.many-is, le-ltb _ _ w.if-d-gt-MOST_COUNTED.false)
    ] in
    let e = c.spend.ensures ∙ ap spent (rw many at c.judged.ensures) ∙ row_count_is _ _ c.integer-d.ensures.0 _ in
    (e, lt_as (rows_extended _) _ _ e)

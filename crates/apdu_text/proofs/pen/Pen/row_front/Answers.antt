-- The id, the sign and the container.
-- Assumes nothing.
use mathlib.Core.Path.{ap, ◌∙◌}
use Rattle.apdu_text.specs.Parts.{decimal, row_front, container_front}
use Rattle.apdu_text.proofs.Inking.{writes_as, writes_then}
use Rattle.apdu_text.proofs.pen.Pen.row_front.Goals as goal

pub returns : goal.returns
unfolding row_front
returns c =
    let r = c.args.row in
    writes_then (writes_as (ap decimal c.from.ensures) c.decimal.ensures)
    (writes_then c.character.ensures
    (writes_as (ap (λ k. container_front c.args.s.now k c.from-3.result r.start) c.from-2.ensures ∙ ap (λ n. container_front c.args.s.now r.kind n r.start) c.from-3.ensures) c.container_front.ensures))

use mathlib.Core.List.{[], ◌∷◌, ◌++◌}
use mathlib.Core.Path.{ap, ◌∙◌}
use Rattle.apdu_text.specs.Parts.{numbers}
use Rattle.apdu_text.proofs.Inking.{leaves_all, leaves_as, leaves_at}
use Rattle.apdu_text.proofs.Pieces.{part_all, number_more, number_last, numbers_end, list_writes, reach}
use Rattle.apdu_text.proofs.pen.Pen.numbers.Goals as goal
use Rattle.apdu_text.proofs.pen.Pen.numbers.Goals.{then-k-most, else-k-most}

pub loop-k-init : goal.loop-k-init
loop-k-init c = leaves_as (ap (λ l. numbers l ++ (93 ∷ [])) (part_all _ _ _ c.shown-most.ensures)) (leaves_all _ _)

pub octet-requires : goal.octet-requires
octet-requires c = reach _ _ _ c.shown-most.ensures c.loop-k-test.true

pub loop-k-preserved : goal.loop-k-preserved
loop-k-preserved c = elim c.if-k-most.branch [
  | then-k-most w ↦ leaves_at w.self-is (number_more _ _ _ _ _ c.loop-k.invariant w.if-k-most.true (c.from.ensures ∙ c.octet.ensures) c.decimal.ensures w.character-then-k-most.ensures)
  | else-k-most w ↦ leaves_at w.self-is (number_last _ _ _ _ _ c.loop-k.invariant c.loop-k-test.true w.if-k-most.false (c.from.ensures ∙ c.octet.ensures) c.decimal.ensures)
]

pub returns : goal.returns
returns c = list_writes _ c.character.ensures (numbers_end _ _ _ _ _ c.loop-k.invariant c.loop-k-test.false c.character-2.ensures)

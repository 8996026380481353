-- Two digits.
-- Assumes nothing.
use mathlib.Core.List.{[], ◌∷◌}
use mathlib.Core.Path.{ap}
use Rattle.apdu_text.proofs.Inking.{writes_as, writes_then}
use Rattle.apdu_text.proofs.pen.Pen.octet.Goals as goal

pub returns : goal.returns
returns c = writes_then (writes_as (ap (λ d. d ∷ []) c.digit.ensures) c.character.ensures) (writes_as (ap (λ d. d ∷ []) c.digit-2.ensures) c.character-2.ensures)

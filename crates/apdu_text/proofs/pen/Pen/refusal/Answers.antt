-- With its position or without.
-- Assumes nothing.
use mathlib.Core.Path.{refl}
use Rattle.apdu_text.specs.Words.{refused_with}
use Rattle.apdu_text.proofs.Pieces.{number_as}
use Rattle.apdu_text.proofs.Flat.{refusal_writes}
use Rattle.apdu_text.proofs.pen.Pen.refusal.Goals as goal

pub returns : goal.returns
returns c = refusal_writes _ _ refl (number_as refused_with c.from.ensures c.number.ensures) c.number_if.ensures

-- A character is set where there is room, and the place goes on.
-- Assumes nothing.
use native.Mathlib.Omega.{arith}
use Rattle.apdu_text.proofs.Inking.{set_writes, out_writes}
use Rattle.apdu_text.proofs.pen.Pen.character.Goals as goal
use Rattle.apdu_text.proofs.pen.Pen.character.Goals.{then-self, else-self}

pub returns : goal.returns
returns c = elim c.if-self.branch [
  | then-self w ↦ set_writes _ _ w.self-is (omega arith) c.saturating_add-self.ensures
  | else-self w ↦ out_writes _ _ w.self-is w.if-self.false (omega arith) c.saturating_add-self.ensures
]

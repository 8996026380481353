-- As much is copied as has room, and the place goes on.
-- Assumes nothing.
use native.Mathlib.Omega.{arith}
use mathlib.Core.Path.{refl}
use Rattle.apdu_text.proofs.Inking.{whole_writes, copied_writes, far_writes}
use Rattle.apdu_text.proofs.pen.Pen.word.Goals as goal
use Rattle.apdu_text.proofs.pen.Pen.word.Goals.{then-at-self+then-word-room, then-at-self+else-word-room, else-at-self}

pub returns : goal.returns
returns c = elim c.if-at-self.branch [
  | then-at-self+then-word-room w ↦ whole_writes _ _ w.self-is w.if-at-self.true (omega arith) w.if-word-room.true w.copy_from_slice.ensures.after (omega arith) c.saturating_add-self.ensures
  | then-at-self+else-word-room w ↦ copied_writes _ _ w.self-is w.if-at-self.true (omega arith) (omega arith) w.copy_from_slice-else-word-room.ensures.after (omega arith) c.saturating_add-self.ensures
  | else-at-self w ↦ far_writes _ _ w.self-is w.if-at-self.false (omega arith) refl c.saturating_add-self.ensures
]

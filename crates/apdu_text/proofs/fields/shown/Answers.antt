-- The two ways of `shown`.
-- Assumes nothing.
use mathlib.Core.Path.{sym}
use Rattle.apdu_text.proofs.Pieces.{shown_outside, shown_far, shown_inside}
use Rattle.apdu_text.proofs.fields.shown.Goals as goal
use Rattle.apdu_text.proofs.fields.shown.Goals.{else-inside-via-then-inside+else-inside-2, else-inside-via-else-inside}

pub returns-then-inside-2 : goal.returns-then-inside-2
returns-then-inside-2 c = shown_inside _ _ _ (sym c.if-inside.ensures) (sym c.if-inside-2.ensures)

pub returns-else-inside : goal.returns-else-inside
returns-else-inside c = elim c.else-inside.branch [
  | else-inside-via-then-inside+else-inside-2 w ↦ shown_far _ _ _ (sym w.if-inside-2.ensures)
  | else-inside-via-else-inside w ↦ shown_outside _ _ _ (sym w.if-inside.ensures)
]

use native.Mathlib.Omega.{arith}
use Rattle.apdu_text.proofs.Inking.{leaves_all}
use Rattle.apdu_text.proofs.Pieces.{seam_more, seam_comma, seam_none}
use Rattle.apdu_text.proofs.pen.Pen.seam.Goals as goal

pub loop-k-init : goal.loop-k-init
loop-k-init c = leaves_all _ _

pub returns-then-due-k-ne0 : goal.returns-then-due-k-ne0
returns-then-due-k-ne0 c = seam_comma _ _ c.loop-k.invariant (omega arith) c.if-due-k-ne0.true c.character.ensures

pub loop-k-preserved : goal.loop-k-preserved
loop-k-preserved c = seam_more _ _ c.loop-k.invariant (omega arith) c.if-due-k-ne0.false c.character-in-loop-k.ensures

pub returns : goal.returns
returns c = seam_none _ _ c.loop-k.invariant (omega arith)

-- The loop leaves the lists up to k.
-- Assumes nothing.
use lib.ListN.{length}
use Rattle.apdu_text.specs.Parts.{seam}
use Rattle.apdu_text.specs.Ink.{stack_of}
use Rattle.apdu_text.proofs.Inking.{Leaves}
use Rattle.apdu_text.proofs.pen.Pen.seam.Given as goal

abbrev pub invariant-loop-k : goal.invariant-loop-k
invariant-loop-k l = Leaves (seam (stack_of l.due (length l.due))) l.initial.self (seam (stack_of l.due l.k)) l.self

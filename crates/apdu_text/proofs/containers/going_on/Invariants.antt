-- The loop leaves the lists up to k.
-- Assumes nothing.
use mathlib.Core.Path.{◌≡◌}
use lib.ListN.{length}
use Rattle.apdu_text.specs.Parts.{going_on}
use Rattle.apdu_text.specs.Ink.{stack_of}
use Rattle.apdu_text.proofs.containers.going_on.Given as goal

abbrev pub invariant-loop-k : goal.invariant-loop-k
invariant-loop-k l = going_on (stack_of l.due (length l.due)) ≡ going_on (stack_of l.due l.k)

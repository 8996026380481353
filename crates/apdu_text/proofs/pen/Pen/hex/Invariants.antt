-- The loop leaves the octets from the index on.
-- Assumes nothing.
use lib.ListN.{drop}
use Rattle.bench_lines.specs.Line.{hex_text}
use Rattle.apdu_text.proofs.Inking.{Leaves}
use Rattle.apdu_text.proofs.pen.Pen.hex.Given as goal

abbrev pub invariant-loop-o : goal.invariant-loop-o
invariant-loop-o l = Leaves (hex_text l.octets) l.initial.pen (hex_text (drop l.o-index l.octets)) l.pen

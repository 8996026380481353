-- The loop leaves the octets of the part from k on.
-- Assumes nothing.
use Prim.Native.Nat.{◌-◌, ◌+◌, ◌*◌}
use Rattle.bench_lines.specs.Line.{hex_text}
use Rattle.bits.specs.Strings.{string_at}
use Rattle.apdu_text.specs.Parts.{part_at}
use Rattle.apdu_text.proofs.Inking.{Leaves}
use Rattle.apdu_text.proofs.pen.Pen.part.Given as goal

abbrev pub invariant-loop-k : goal.invariant-loop-k
invariant-loop-k l = Leaves (hex_text (part_at l.s l.start l.n)) l.initial.pen (hex_text (string_at l.s (l.start + 8 * l.k) (l.most - l.k))) l.pen

-- The loop leaves the numbers from k on and the bracket.
-- Assumes nothing.
use Prim.Native.Nat.{◌-◌, ◌+◌, ◌*◌}
use mathlib.Core.List.{[], ◌∷◌, ◌++◌}
use Rattle.bits.specs.Strings.{string_at}
use Rattle.apdu_text.specs.Parts.{part_at, numbers}
use Rattle.apdu_text.proofs.Inking.{Leaves}
use Rattle.apdu_text.proofs.pen.Pen.numbers.Given as goal

abbrev pub invariant-loop-k : goal.invariant-loop-k
invariant-loop-k l = Leaves (numbers (part_at l.s l.start l.n) ++ (93 ∷ [])) l.initial.self (numbers (string_at l.s (l.start + 8 * l.k) (l.most - l.k)) ++ (93 ∷ [])) l.self

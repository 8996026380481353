-- The loop leaves the digits in front of those that are set.
-- Assumes nothing.
use Prim.Native.Nat.{◌+◌}
use mathlib.Core.Path.{◌≡◌}
use lib.ListN.{length, drop}
use Rattle.bench_lines.specs.Numerals.{width, decimal_before}
use Rattle.apdu_text.specs.Parts.{decimal}
use Rattle.apdu_text.proofs.pen.Pen.decimal.Given as goal

abbrev pub invariant-loop-i : goal.invariant-loop-i
invariant-loop-i l = (l.self ≡ l.initial.self) × (l.i + width l.n ≡ 20 + width l.rest) × (length l.digits ≡ 20) × (decimal l.n ≡ decimal_before l.rest (drop l.i l.digits))

-- Before each turn the first i octets are copied, and all others are as they were.
use mathlib.Core.Path.{◌≡◌}
use lib.Seq.{paste}
use Rattle.reassembly.proofs.copy.copy.Given as goal

abbrev pub invariant-loop-i : goal.invariant-loop-i
invariant-loop-i l = l.target ≡ paste l.initial.target l.at l.source l.i

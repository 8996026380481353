-- `bits::string::same_octets` meets its contract. The invariant: it tells whether the first k octets are the same. Assumes nothing.
use mathlib.Core.Path.{◌≡◌}
use Rattle.bits.proofs.Aligned.{Same}
use Rattle.bits.proofs.string.same_octets.Given as goal

abbrev pub invariant-loop-k : goal.invariant-loop-k
invariant-loop-k l = l.same ≡ Same l.s l.first l.t l.other l.k

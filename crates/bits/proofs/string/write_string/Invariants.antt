-- `bits::string::write_string` meets its contract. The invariant: the first k octets are written. Assumes nothing.
use mathlib.Core.Path.{◌≡◌}
use Rattle.bits.proofs.Strings.{Written}
use Rattle.bits.proofs.string.write_string.Given as goal

abbrev pub invariant-loop-k : goal.invariant-loop-k
invariant-loop-k l = l.out ≡ Written l.s l.start l.initial.out l.at l.k

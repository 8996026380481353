-- `bits::string::copy_string` meets its contract. The invariant: the first k octets are in their place. Assumes nothing.
use mathlib.Core.Path.{◌≡◌}
use Rattle.bits.proofs.Strings.{Copied}
use Rattle.bits.proofs.string.copy_string.Given as goal

abbrev pub invariant-loop-k : goal.invariant-loop-k
invariant-loop-k l = l.out ≡ Copied l.s l.start l.initial.out l.at l.k

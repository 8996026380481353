-- `bits::string::copy_octets` meets its contract. The invariant: the first k octets are in their place. Assumes nothing.
use mathlib.Core.Path.{◌≡◌}
use Prim.Native.Nat.{◌*◌}
use Rattle.bits.proofs.Strings.{Copied}
use Rattle.bits.proofs.string.copy_octets.Given as goal

abbrev pub invariant-loop-k : goal.invariant-loop-k
invariant-loop-k l = l.out ≡ Copied l.s (8 * l.first) l.initial.out l.at l.k

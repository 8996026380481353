-- `bits::string::inside` meets its contract: the first whole octet behind the start, with n more, is at most the number of octets. Assumes nothing.
use native.Mathlib.Omega.{arith}
use Rattle.bits.proofs.Outcomes.{starts_outside, ends_inside}
use Rattle.bits.proofs.string.inside.Goals as goal

pub returns-then-first-octets : goal.returns-then-first-octets
returns-then-first-octets c = ends_inside _ _ _ (omega arith) (omega arith)

pub returns-else-first-octets : goal.returns-else-first-octets
returns-else-first-octets c = starts_outside _ _ _ (omega arith) (omega arith)

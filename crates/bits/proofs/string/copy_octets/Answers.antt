-- `bits::string::copy_octets` meets its contract: each octet is copied to its place. Assumes nothing.
use native.Mathlib.Omega.{arith}
use mathlib.Core.Path.{refl}
use Rattle.bits.proofs.Laws.{octets_known}
use Rattle.bits.proofs.Strings.{copied_none, copied_more, copied_all}
use Rattle.bits.proofs.Aligned.{aligned_octet}
use Rattle.bits.proofs.string.copy_octets.Goals as goal

pub loop-k-init : goal.loop-k-init
loop-k-init c = copied_none _ _ _ _

pub loop-k-preserved : goal.loop-k-preserved
loop-k-preserved c = copied_more _ _ _ _ _ c.loop-k.invariant (aligned_octet _ _ _ (octets_known _ c.type_inv.s) refl) (omega arith)

pub returns : goal.returns
returns c = copied_all _ _ _ _ _ _ c.loop-k.invariant (omega arith)

-- `bits::string::same_octets` meets its contract: each octet in turn decides. Assumes nothing.
use native.Mathlib.Omega.{arith}
use mathlib.Core.Path.{refl}
use Rattle.bits.proofs.Laws.{octets_known}
use Rattle.bits.proofs.Aligned.{same_none, same_more, same_whole}
use Rattle.bits.proofs.string.same_octets.Goals as goal

pub loop-k-init : goal.loop-k-init
loop-k-init c = same_none _ _ _ _

pub loop-k-preserved : goal.loop-k-preserved
loop-k-preserved c =
    let a = c.args in
    let l = c.loop-k in
    same_more a.s.now a.first a.t.now a.other l.k (octets_known _ c.type_inv.s) (octets_known _ c.type_inv.t) l.invariant refl refl

pub returns : goal.returns
returns c = same_whole _ _ _ _ _ _ c.loop-k.invariant (omega arith)

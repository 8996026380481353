use native.Mathlib.Omega.{arith}
use Rattle.bits.proofs.Aligned.{put_one}
use Rattle.bits.proofs.Window.{left_less, left_none}
use Rattle.bits.proofs.field.put_window.Goals as goal

pub returns-then-n-eq1 : goal.returns-then-n-eq1
returns-then-n-eq1 c =
    let a = c.args in
    put_one a.out.now a.first a.n a.v (omega arith) (omega arith)

pub loop-k-preserved : goal.loop-k-preserved
loop-k-preserved c = left_less _ _ _ _ _ _ _ c.loop-k.invariant (omega arith) (omega arith)

pub returns : goal.returns
returns c = left_none _ _ _ _ _ _ _ c.loop-k.invariant (omega arith)

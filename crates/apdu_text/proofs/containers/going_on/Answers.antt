use native.Mathlib.Omega.{arith}
use mathlib.Core.Path.{◌≡◌}
use Prim.Native.Nat.{◌+◌, ◌-◌}
use Rattle.apdu_text.proofs.Pieces.{going_more, going_stop, going_none}
use Rattle.apdu_text.proofs.containers.going_on.Goals as goal

pub returns-then-due-k-ne0 : goal.returns-then-due-k-ne0
returns-then-due-k-ne0 c =
    let e : c.loop-k.k - 1 + 1 ≡ c.loop-k.k = omega arith in
    (rw e (going_stop _ _ _ c.loop-k.invariant (omega arith) c.if-due-k-ne0.true), omega arith)

pub loop-k-preserved : goal.loop-k-preserved
loop-k-preserved c = going_more _ _ _ c.loop-k.invariant (omega arith) c.if-due-k-ne0.false

pub returns : goal.returns
returns c = (going_none _ _ _ c.loop-k.invariant (omega arith), omega arith)

use mathlib.Core.Path.{◌≡◌, ◌∙◌}
use native.Mathlib.Omega.{arith}
use lib.Seq.{paste-zero}
use Rattle.directory.proofs.Looking.{stored_more, gathered_stored}
use Rattle.directory.proofs.gather.Goals as goal

pub loop-i-init : goal.loop-i-init
loop-i-init c = paste-zero _ 0 c.args.rows.now

pub loop-i-preserved : goal.loop-i-preserved
loop-i-preserved c = stored_more _ _ c.loop-i.i c.loop-i.invariant (omega arith) (omega arith)

pub returns : goal.returns
returns c =
    let e : c.loop-i.i ≡ c.min-kept.result = omega arith in
    rw c.min.ensures (gathered_stored c.args.rows.now c.loop-i.i c.loop-i.invariant (e ∙ c.min-kept.ensures))

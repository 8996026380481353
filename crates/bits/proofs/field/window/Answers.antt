use native.Mathlib.Omega.{arith}
use mathlib.Core.Path.{◌∙◌}
use Rattle.bits.proofs.Aligned.{window_one}
use Rattle.bits.proofs.Window.{window_none, window_more, window_lt, window_whole}
use Rattle.bits.proofs.field.window.Goals as goal

pub returns-then-n-eq1 : goal.returns-then-n-eq1
returns-then-n-eq1 c = window_one _ _ _ (omega arith) (c.from.ensures ∙ c.octet.ensures) (omega arith)

pub loop-k-init : goal.loop-k-init
loop-k-init c = window_none _ _

pub overflow_mul-v : goal.overflow_mul-v
overflow_mul-v c = omega (arith, window_lt _ _ _ c.loop-k.invariant (omega arith))

pub overflow_add-v : goal.overflow_add-v
overflow_add-v c = omega (arith, window_lt _ _ _ c.loop-k.invariant (omega arith))

pub loop-k-preserved : goal.loop-k-preserved
loop-k-preserved c = window_more _ _ _ c.loop-k.invariant (c.from-in-loop-k.ensures ∙ c.octet-in-loop-k.ensures) (omega arith)

pub returns : goal.returns
returns c = window_whole _ _ _ _ c.loop-k.invariant (omega arith) (omega arith)

use native.Mathlib.Omega.{arith}
use mathlib.Core.Path.{refl, ◌∙◌}
use Rattle.bench_lines.proofs.Decimal.{left_less, left_whole}
use Rattle.bench_lines.proofs.digits.put_digits.Goals as goal

pub loop-i-preserved : goal.loop-i-preserved
loop-i-preserved c = c.loop-i.invariant ∙ left_less _ _ _ _ refl (omega arith) (omega arith)

pub returns : goal.returns
returns c = left_whole _ _ _ _ _ _ _ c.loop-i.invariant (omega arith)

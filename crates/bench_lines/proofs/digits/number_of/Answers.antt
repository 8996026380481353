use native.Mathlib.Omega.{arith}
use Prim.Native.Nat.{◌+◌}
use mathlib.Core.Path.{refl}
use lib.ListN.{drop}
use Rattle.bench_lines.specs.Numerals.{spelled}
use Rattle.bench_lines.proofs.Spelling.{number_more, number_over, number_end, converted, not_converted}
use Rattle.bench_lines.proofs.digits.number_of.Goals as goal

pub loop-c-init : goal.loop-c-init
unfolding spelled
loop-c-init c = (omega arith, refl)

pub returns-in_err-number : goal.returns-in_err-number
returns-in_err-number c =
    let h = not_converted _ c.try_from.ensures c.in_err-number.ensures.value in
    rw c.from_residual.ensures
    (number_over (drop (c.loop-c.c-index + 1) c.args.s.now) c.args.base _ (number_more c.args.s.now c.loop-c.c-index c.args.base c.digit_value.ensures.0 (omega arith) _ c.loop-c.invariant.1) (omega arith) (rw c.from.ensures at h))

pub loop-c-preserved : goal.loop-c-preserved
loop-c-preserved c =
    let p = converted _ c.try_from.ensures c.in_ok-number.ensures.value in
    let q = number_more c.args.s.now c.loop-c.c-index c.args.base c.digit_value.ensures.0 (omega arith) _ c.loop-c.invariant.1 in
    (omega arith, rw (p.1, c.from.ensures) q)

pub returns : goal.returns
returns c = number_end c.args.s.now c.loop-c.c-index c.args.base c.loop-c.number c.loop-c.invariant.1 (omega arith) (omega arith)

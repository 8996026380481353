use native.Mathlib.Omega.{arith}
use Prim.Native.Nat.{◌-◌, ◌+◌, ◌%◌, ◌<◌}
use mathlib.Core.Path.{refl, ◌∙◌}
use lib.ListN.{length-set}
use Rattle.bench_lines.proofs.Decimal.{width_more, width_positive, width_u64}
use Rattle.apdu_text.specs.Parts.{decimal}
use Rattle.apdu_text.proofs.Inking.{writes_as, writes_from}
use Rattle.apdu_text.proofs.Figures.{decimal_one, digits_more, decimal_writes}
use Rattle.apdu_text.proofs.pen.Pen.decimal.Goals as goal

pub loop-i-init : goal.loop-i-init
unfolding decimal
loop-i-init c = (refl, refl, refl, refl)

pub returns-then-n-lt10 : goal.returns-then-n-lt10
returns-then-n-lt10 c = writes_as (decimal_one _ (omega arith)) c.character.ensures

pub returns-then-rest-eq0 : goal.returns-then-rest-eq0
returns-then-rest-eq0 c =
    let l = c.loop-i.invariant in
    writes_from l.0 (decimal_writes c.args.n c.loop-i.rest c.loop-i.digits c.loop-i.i l.3 (omega arith) (omega arith) c.word.ensures (20 - (c.loop-i.i - 1)) (48 + c.loop-i.rest % 10) refl refl (omega arith) (omega arith))

pub loop-i-preserved : goal.loop-i-preserved
loop-i-preserved c =
    let l = c.loop-i.invariant in
    let h : 9 < c.loop-i.rest = omega arith in (
      l.0,
      omega (arith, width_more c.loop-i.rest h),
      length-set c.loop-i.digits (c.loop-i.i - 1) (48 + c.loop-i.rest % 10) ∙ l.2,
      digits_more c.args.n c.loop-i.rest c.loop-i.digits c.loop-i.i l.3 (omega arith) (omega arith) refl h,
    )

pub returns : goal.returns
returns c = absurd (omega (arith, width_positive c.loop-i.rest, width_u64 _ c.ranges.n.fits))

-- `bench_lines::digits::width_of` meets its contract: the power of ten at or below a number tells its digits. Assumes nothing.
use Rattle.bench_lines.proofs.Decimal.{width_u64, width_log}
use native.Mathlib.Omega.{arith}
use Rattle.bench_lines.proofs.digits.width_of.Goals as goal

pub returns : goal.returns
returns c =
    let w = width_log c.args.n c.checked_ilog10.result c.checked_ilog10.ensures.none c.checked_ilog10.ensures.power_le c.checked_ilog10.ensures.next_power_gt in
    (omega arith, omega (arith, width_u64 _ c.ranges.n.fits))

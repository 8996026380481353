-- `bench_lines::text::put_number` meets its contract: the digits, and one octet behind them. Assumes nothing.
use native.Mathlib.Omega.{arith}
use Rattle.bench_lines.proofs.Appending.{length_number, number_placed}
use Rattle.bench_lines.proofs.text.put_number.Goals as goal

pub put_digits-requires : goal.put_digits-requires
put_digits-requires c = omega (arith, length_number c.args.n c.args.end)

pub bounds-out-at : goal.bounds-out-at
bounds-out-at c = omega (arith, length_number c.args.n c.args.end)

pub returns : goal.returns
returns c =
    number_placed _ _ _ _ c.width_of-k.ensures.0 c.put_digits.ensures (omega (arith, length_number c.args.n c.args.end))

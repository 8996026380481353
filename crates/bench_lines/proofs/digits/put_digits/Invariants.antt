-- `bench_lines::digits::put_digits` meets its contract. The invariant: the digits left, written before those that are written, are the whole. Assumes nothing.
use mathlib.Core.Path.{◌≡◌}
use Rattle.bench_lines.proofs.Decimal.{Left}
use Rattle.bench_lines.proofs.digits.put_digits.Given as goal

abbrev pub invariant-loop-i : goal.invariant-loop-i
invariant-loop-i l = Left l.initial.out l.at l.k l.n ≡ Left l.out l.at l.i l.rest

-- `bench_lines::digits::put_octets` meets its contract. The invariant: the first k octets are in their place. Assumes nothing.
use mathlib.Core.Path.{◌≡◌}
use mathlib.Core.List.{◌++◌}
use lib.ListN.{take, drop}
use Rattle.bench_lines.specs.Numerals.{octets_of}
use Rattle.bench_lines.proofs.digits.put_octets.Given as goal

abbrev pub invariant-loop-k : goal.invariant-loop-k
invariant-loop-k l = l.out ≡ take l.k (octets_of l.s) ++ drop l.k l.initial.out

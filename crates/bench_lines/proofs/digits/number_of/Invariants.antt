-- `bench_lines::digits::number_of` meets its contract. The invariant: the digits left spell the number behind those passed. Assumes nothing.
use Prim.Native.Nat.{◌<◌}
use mathlib.Core.Path.{◌≡◌}
use lib.ListN.{drop}
use Rattle.bench_lines.specs.Numerals.{spelled, spelled_after}
use Rattle.bench_lines.proofs.digits.number_of.Given as goal

abbrev pub invariant-loop-c : goal.invariant-loop-c
invariant-loop-c l = (l.number < 4294967296) × (spelled l.base l.s ≡ spelled_after l.base l.number (drop l.c-index l.s))

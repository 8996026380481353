-- `header::length_for` meets its contract, a bound after the other. Assumes nothing.
use native.Mathlib.Omega.{arith}
use Rattle.header.proofs.Reading.{length_one, length_two, length_three}
use Rattle.header.proofs.length_for.Goals as goal

pub returns-then-counter-lt4 : goal.returns-then-counter-lt4
returns-then-counter-lt4 c = length_one (omega arith)

pub returns-then-counter-lt512 : goal.returns-then-counter-lt512
returns-then-counter-lt512 c = length_two (omega arith) (omega arith)

pub returns-else-counter-lt512 : goal.returns-else-counter-lt512
returns-else-counter-lt512 c = length_three (omega arith)
